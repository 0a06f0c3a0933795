-- The part of demand 3 that speaks of ticks, positions and inputs (specs/Boards.antt). Assumes nothing.
use Prim.Native.Nat.{ℕ, zero, suc, ◌+◌}
use mathlib.Core.Path.{◌≡◌, refl, ◌∙◌, ap}
use mathlib.Core.Bool.{Bool, true, false, ◌&&◌, false≢true}
use mathlib.Core.List.{List, [], ◌∷◌, ◌++◌, append_assoc, append-nil}
use lib.ListN.{get_or, replicate}
use lib.Dec.{ltb}
use lib.IntN.{pos}
use Rattle.kinds.specs.declared.Version.{Version}
use Rattle.state.specs.State.{present, no_entries, empty_reader}
use Rattle.state.specs.Laws.{Sizes}
use Rattle.state.specs.declared.Reader.{Reader}
use Rattle.state.proofs.Board.{none_sizes}
use Rattle.back.specs.Board.{board_of}
use Rattle.back.specs.Back.{Back, was}
use Rattle.calls.specs.Calls.{Call, call, next, Seen, is_pending, event_of, after, events}
use Rattle.demand.specs.Events.{is13, meets13, back_one, back_over, count, is_present, players}
use Rattle.demand.specs.Boards.{Told, BoardsKept}
use Rattle.demand.proofs.Tests.{or-false}
use Rattle.demand.proofs.Steps.{Good}
use Rattle.demand.proofs.Calls.{fair_call}

-- ---- lists of calls

back_append : (a : Back) (k l : List Seen) → back_over a (k ++ l) ≡ back_over (back_over a k) l
unfolding back_over
back_append a [] l = refl
back_append a (s ∷ k) l = back_append (back_one a s) k l

pub after_append : (r : Reader) (a b : List Call) → after r (a ++ b) ≡ after (after r a) b
unfolding after
after_append r [] b = refl
after_append r (c ∷ a) b = after_append (next r c) a b

-- no refusal 13 in two lists: none in the first, none in the second after it
quiet_append : (r : Reader) (a b : List Call) → meets13 r (a ++ b) ≡ false → (meets13 r a ≡ false) × (meets13 (after r a) b ≡ false)
unfolding after meets13
quiet_append r [] b e = (refl, e)
quiet_append r (c ∷ a) b e =
    let o = or-false (is13 (call r c).said) (meets13 (next r c) (a ++ b)) e in
    let q = quiet_append (next r c) a b o.1 in
    (rw o.0 q.0, q.1)

-- ---- what one call keeps, each call of a list keeps

record Inv (r : Reader) (h : List Seen) : Type 0 where
  sizes : Sizes r.entries
  told : Told r.entries h

module _ {r : Reader} {h : List Seen} (i : Inv r h) (c : Call) (cs : List Call) (e : meets13 r (c ∷ cs) ≡ false) where
  first : Good (board_of r) h (is_pending r.scalars.pending) c.window (call r c)
  unfolding meets13
  first = fair_call r h c.window c.last i.sizes i.told (or-false (is13 (call r c).said) (meets13 (next r c) cs) e).0

  first_kept : Inv (next r c) (event_of r c ++ h)
  first_kept = record { sizes = first.sizes; told = first.told }

  others : meets13 (next r c) cs ≡ false
  unfolding meets13
  others = (or-false (is13 (call r c).said) (meets13 (next r c) cs) e).1

kept : (cs : List Call) {r : Reader} {h : List Seen} → Inv r h → meets13 r cs ≡ false → Inv (after r cs) (events r cs ++ h)
unfolding after events
kept [] i e = i
kept (c ∷ cs) i e = rw append_assoc (kept cs (first_kept i c cs e) (others i c cs e))

had_back : (cs : List Call) {r : Reader} {h : List Seen} → Inv r h → meets13 r cs ≡ false
    → back_over (was (board_of (after r cs))) (events r cs) ≡ was (board_of r)
unfolding after events back_over
had_back [] i e = refl
had_back (c ∷ cs) {r} i e =
    let seen = event_of r c in
    back_append (was (board_of (after (next r c) cs))) (events (next r c) cs) seen
    ∙ ap (λ (a : Back). back_over a seen) (had_back cs (first_kept i c cs e) (others i c cs e))
    ∙ (first i c cs e).back

-- ---- the empty reader

no_mark_law : (n c : ℕ) → get_or (replicate {A = ℕ} n 0) c 0 ≡ 0
no_mark_law zero c = refl
no_mark_law (suc n) zero = refl
no_mark_law (suc n) (suc c) = no_mark_law n c

and_no : (a : Bool) → a && false ≡ false
and_no true = refl
and_no false = refl

nobody : (c : ℕ) → present no_entries c ≡ is_present (pos c) []
unfolding no_entries is_present
nobody c = rw (no_mark_law 128 c) (and_no (ltb c 128))

no_players : players (replicate {A = ℕ} 128 0) + 0 ≡ 0
unfolding players
no_players = refl

empty_told : Told no_entries []
unfolding no_entries count is_present
empty_told = record { number = no_players; presence = nobody; negative = λ c. refl; position = λ c e. absurd (false≢true e) }

empty_inv : (v : Version) → Inv (empty_reader v) []
unfolding empty_reader
empty_inv v = record { sizes = none_sizes; told = empty_told }

-- ---- boards

pub boards_kept : BoardsKept
boards_kept v before between quiet =
    let q = quiet_append (empty_reader v) before between quiet in
    record {
      back = rw (after_append (empty_reader v) before between) (had_back between (kept before (empty_inv v) q.0) q.1);
      told = rw append-nil at (kept (before ++ between) (empty_inv v) quiet).told;
    }
