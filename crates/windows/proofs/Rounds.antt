-- Rounds print what is printed of a body, in whatever pieces it came. Assumes nothing.
use Prim.Native.Nat.{ℕ, zero, suc, ◌+◌, ◌*◌, ◌≤◌, ◌<◌}
use mathlib.Core.Path.{◌≡◌, refl, sym, ◌∙◌, ap, subst}
use mathlib.Core.Bool.{Bool, true, false, cond, false≢true}
use mathlib.Core.List.{List, [], ◌∷◌, ◌++◌, append_assoc, append-nil}
use native.Mathlib.Omega.{arith}
use lib.ListN.{length, drop, length-take, length-drop, length-append}
use lib.Seq.{take-append_seam, drop-append-le}
use Rattle.num.proofs.Cases.{by_bool}
use Rattle.item.specs.Said.{Said, gives, more, finish, refuses}
use Rattle.state.specs.State.{empty_reader}
use Rattle.state.specs.Reading.{Event, read_call, reader_after}
use Rattle.state.specs.declared.Reader.{Reader}
use Rattle.calls.specs.Calls.{is_pending, Seen, seen_by}
use Rattle.calls.specs.Along.{along, Run, before, on_said, calls}
use Rattle.windows.specs.Windows.{full, window_of, is_short, is_last_window, turn_run, ends, wants, Printer, run_by, printed_from}
use Rattle.windows.specs.Turns.{some, all, AllPrinted}
use Rattle.windows.specs.Rounds.{Input, input_after, round_of, last_round, wants_read, rounds_by, all_pieces, RoundsPrint}
use Rattle.windows.proofs.Wants.{wants_more_law}
use Rattle.windows.proofs.Whole.{turn_prints}
use Rattle.windows.proofs.Bound.{all_printed_of}
use Rattle.calls.proofs.Ranks.{rank, rank_le}
use Rattle.windows.proofs.EnoughTurns.{run_falls, left_after, sum_le, M}

-- all the bytes that are left
abbrev pub body_of : Input → List ℕ
body_of i = i.hand ++ all_pieces i.pieces

-- no piece comes where the input has ended
abbrev Sound : Input → Type 0
Sound i = i.ended ≡ true → i.pieces ≡ []

-- a round that is not the last uses bytes at hand, and less is left for each event
module _ (room : List ℕ → ℕ) (r : Reader) (i : Input) (o : last_round i (round_of room r i) ≡ false) where
  abbrev run : Run
  run = round_of room r i

  left : (rank run.reader.scalars + length run.seen ≤ rank r.scalars + 5 * run.used) × (run.used ≤ length (window_of i.hand))
  left =
      left_after (is_short i.hand) run.halt (rank r.scalars) (length (window_of i.hand)) run o
      (run_falls (suc (room i.hand)) r (window_of i.hand) (is_last_window i.ended i.hand))

  used_le : run.used ≤ length i.hand
  used_le = omega (arith, left.1, length-take full i.hand)

  pub rest_is : drop run.used (body_of i) ≡ drop run.used i.hand ++ all_pieces i.pieces
  rest_is = drop-append-le run.used i.hand (all_pieces i.pieces) used_le

  falls : M run.reader (drop run.used (body_of i)) + length run.seen ≤ M r (body_of i)
  falls =
      sum_le run.used (length (body_of i)) (rank r.scalars) (rank run.reader.scalars) (length (drop run.used (body_of i)))
      (length run.seen) (omega (arith, used_le, length-append i.hand (all_pieces i.pieces))) left.0 (length-drop run.used (body_of i))

-- ---- the input after it

pub body_after : (w : Bool) (used : ℕ) (hand : List ℕ) (ended : Bool) (ps : List (List ℕ))
    → drop used hand ++ all_pieces ps ≡ body_of (input_after w used (record { hand = hand; ended = ended; pieces = ps }))
unfolding all_pieces
body_after true used hand ended [] = refl
body_after true used hand ended (p ∷ ps) = sym (append_assoc (drop used hand) p (all_pieces ps))
body_after false used hand ended ps = refl

sound_after : (w : Bool) (used : ℕ) (hand : List ℕ) (ended : Bool) (ps : List (List ℕ)) → (ended ≡ true → ps ≡ [])
    → Sound (input_after w used (record { hand = hand; ended = ended; pieces = ps }))
sound_after true used hand ended [] s e = refl
sound_after true used hand ended (p ∷ ps) s e = absurd (false≢true e)
sound_after false used hand ended ps s e = s e

-- ---- how many rounds there may be

unfoldable pub reads : Bool → ℕ
reads true = 0
reads false = 1

abbrev pub size : Reader → Input → ℕ
size r i = M r (body_of i) + length i.pieces + reads i.ended

-- a round that neither ends the reading nor wants more gives an event
some_event : (s : Bool) (a : Said Event) (x : Event → ℕ → Seen) (next : Event → ℕ → Run) (left : Reader)
    → let run = on_said a (λ e m. before (x e m) (next e m)) left in
    ends s run.halt (length run.seen) ≡ false → wants s run.halt ≡ false → 1 ≤ length run.seen
some_event s (gives e m) x next left h w = omega arith
some_event true more x next left h w = absurd (false≢true (sym w))
some_event false more x next left h w = absurd (false≢true (sym h))
some_event s (finish m) x next left h w = absurd (false≢true (sym h))
some_event s (refuses k vs) x next left h w = absurd (false≢true (sym h))

goes_on : (s : Bool) (n : ℕ) (r : Reader) (w : List ℕ) (last : Bool) → let run = calls (suc n) r w last in
    ends s run.halt (length run.seen) ≡ false → wants s run.halt ≡ false → 1 ≤ length run.seen
unfolding along
goes_on s n r w last =
    let t = read_call r w last in
    some_event s t.said (λ e m. seen_by (is_pending r.scalars.pending) w t e m) (λ e m. calls n (reader_after t) (drop m w) last) (reader_after t)

-- a read that is wanted is one fewer to come
after_read : (used : ℕ) (hand : List ℕ) (ended : Bool) (ps : List (List ℕ)) → ended ≡ false
    → let i = input_after true used (record { hand = hand; ended = ended; pieces = ps }) in
    length i.pieces + reads i.ended < length ps + reads ended
unfolding reads
after_read used hand ended [] e = rw e (omega arith)
after_read used hand ended (p ∷ ps) e = rw e (omega arith)

pub smaller : (w : Bool) (room : List ℕ → ℕ) (r : Reader) (i : Input) → last_round i (round_of room r i) ≡ false → wants_read i (round_of room r i) ≡ w
    → size (round_of room r i).reader (input_after w (round_of room r i).used i) < size r i
smaller true room r i o e =
    let run = round_of room r i in
    let b = ap (M run.reader) (rest_is room r i o ∙ body_after true run.used i.hand i.ended i.pieces) in
    omega (arith, falls room r i o, b, after_read run.used i.hand i.ended i.pieces (wants_more_law (suc (room i.hand)) r i.hand i.ended e).0)
smaller false room r i o e =
    let run = round_of room r i in
    let b = ap (M run.reader) (rest_is room r i o ∙ body_after false run.used i.hand i.ended i.pieces) in
    omega (arith, falls room r i o, b, goes_on (is_short i.hand) (room i.hand) r (window_of i.hand) (is_last_window i.ended i.hand) o e)

module _ {A : Type 0} (p : Printer A) where
  -- ---- one round

  abbrev Prints : ℕ → ℕ → Reader → List ℕ → List ℕ → Bool → Type 0
  Prints n k r body bytes ended =
      let run = turn_run (suc n) r bytes ended in
      printed_from p (length run.seen + suc k) r body
      ≡ run_by p (is_short bytes) run
      ++ cond (ends (is_short bytes) run.halt (length run.seen)) [] (printed_from p (suc k) run.reader (drop run.used body))

  by_end : (n k : ℕ) (r : Reader) (hand : List ℕ) (ended : Bool) (ps : List (List ℕ)) → (ended ≡ true → ps ≡ [])
      → Prints n k r (hand ++ all_pieces ps) hand ended
  unfolding all_pieces
  by_end n k r hand true ps s =
      let e : hand ++ all_pieces ps ≡ hand = ap (λ (l : List (List ℕ)). hand ++ all_pieces l) (s refl) ∙ append-nil hand in
      subst (λ (b : List ℕ). Prints n k r b hand true) (sym e) (turn_prints p (record { room = n; arrived = all }) k r hand)
  by_end n k r hand false ps s =
      subst (λ (b : List ℕ). Prints n k r (hand ++ all_pieces ps) b false) (take-append_seam hand (all_pieces ps))
      (turn_prints p (record { room = n; arrived = some (length hand) }) k r (hand ++ all_pieces ps))

  -- ---- rounds one behind the other

  last_of_all : (k : ℕ) (room : List ℕ → ℕ) (r : Reader) (i : Input) → Sound i → last_round i (round_of room r i) ≡ true
      → AllPrinted p r (body_of i) (rounds_by p (suc k) room r i)
  unfolding rounds_by
  last_of_all k room r i s o =
      record { calls = length (round_of room r i).seen; same = λ j. by_end (room i.hand) j r i.hand i.ended i.pieces s ∙ rw o }

  one_of_many : (k : ℕ) (room : List ℕ → ℕ) (r : Reader) (i next : Input) → Sound i → last_round i (round_of room r i) ≡ false
      → next ≡ input_after (wants_read i (round_of room r i)) (round_of room r i).used i → drop (round_of room r i).used (body_of i) ≡ body_of next
      → AllPrinted p (round_of room r i).reader (body_of next) (rounds_by p k room (round_of room r i).reader next)
      → AllPrinted p r (body_of i) (rounds_by p (suc k) room r i)
  unfolding rounds_by
  one_of_many k room r i next s o q b a =
      let run = round_of room r i in
      let text = run_by p (is_short i.hand) run in
      record {
        calls = length run.seen + a.calls;
        same = λ j.
            let e : length run.seen + a.calls + suc j ≡ length run.seen + suc (a.calls + j) = omega arith in
            let f : suc (a.calls + j) ≡ a.calls + suc j = omega arith in
            let g : printed_from p (suc (a.calls + j)) run.reader (drop run.used (body_of i)) ≡ rounds_by p k room run.reader next =
            ap (λ (l : List ℕ). printed_from p (suc (a.calls + j)) run.reader l) b ∙ ap (λ (m : ℕ). printed_from p m run.reader (body_of next)) f ∙ a.same j in
            ap (λ (m : ℕ). printed_from p m r (body_of i)) e ∙ by_end (room i.hand) (a.calls + j) r i.hand i.ended i.pieces s
            ∙ rw o (ap (λ (l : List A). text ++ l) (g ∙ ap (rounds_by p k room run.reader) q));
      }

  all_printed : (k : ℕ) (room : List ℕ → ℕ) (r : Reader) (i : Input) → Sound i → size r i < k → AllPrinted p r (body_of i) (rounds_by p k room r i)
  all_printed zero room r i s h = absurd (omega arith)
  all_printed (suc k) room r i s h =
      let run = round_of room r i in
      let w = wants_read i run in
      let next = input_after w run.used i in
      by_bool (last_round i run)
      (λ o. last_of_all k room r i s o)
      (λ o.
      one_of_many k room r i next s o refl (rest_is room r i o ∙ body_after w run.used i.hand i.ended i.pieces)
      (all_printed k room run.reader next (sound_after w run.used i.hand i.ended i.pieces s)
      (omega (arith, smaller w room r i o refl))))

  pub rounds_print : RoundsPrint p
  unfolding reads
  rounds_print v k room hand pieces h =
      let i : Input = record { hand = hand; ended = false; pieces = pieces } in
      let r = empty_reader v in
      all_printed_of p v (body_of i) (rounds_by p k room r i)
      (all_printed k room r i (λ e. absurd (false≢true e)) (omega (arith, rank_le r.scalars)))
