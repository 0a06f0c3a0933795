-- Nothing to do gives no bytes; and 16384 bytes of target always suffice. Assumes nothing.
use Rattle.std.specs.Prelude.{Option, Some, None}
use Prim.Native.Nat.{ℕ, zero, suc, ◌+◌, ◌≤◌}
use mathlib.Core.Path.{◌≡◌, refl, sym, ap, ◌∙◌}
use mathlib.Core.Bool.{Bool, true, not, ◌&&◌}
use mathlib.Core.List.{List, [], ◌∷◌, ◌++◌}
use native.Mathlib.Omega.{arith}
use lib.ListN.{length}
use lib.Dec.{leb, eqb}
use lib.IntN.{ℤ, pos, negsuc}
use borrow.Author.Tests.{le-ltb, le-leb, eq-eqb}
use Rattle.refusal.specs.Said.{Said, gives, refuses, refusing}
use Rattle.refusal.specs.declared.Refusal.TheVariants.{ShortTarget}
use Rattle.varint.specs.Written.{writing}
use Rattle.kinds.specs.declared.Kind.TheVariants as kinds
use Rattle.state.specs.Reading.{is_closed}
use Rattle.state.specs.declared.Entries.{Entries}
use Rattle.state.specs.declared.Scalars.{Scalars}
use Rattle.state.proofs.Every.{by_cond}
use Rattle.state.proofs.Numbers.{picks_first, picks_second}
use Rattle.teams.specs.Teams.{good_team_reader}
use Rattle.calls.specs.Calls.{is_pending}
use Rattle.back.specs.Board.{board_of}
use Rattle.back.specs.TeamBoard.{good_team_board}
use Rattle.back.specs.declared.TeamBoard.{TeamBoard}
use Rattle.demand.proofs.Tests.{and_both, same_refl, same_all_refl}
use Rattle.choice.specs.Chosen.{
  same_player,
  same_held,
  Rec,
  of_numbers,
  joined,
  player_between,
  player_step,
  input_step,
  changes,
  same_team,
  team_record,
  team_step,
  all_changes,
  skip_to,
  started_by,
  start_if,
  is_some,
  chosen,
  bytes_of,
}
use Rattle.choice.specs.Reaching.{unreachable, choice_to, choice, May, may_reach, reach_says}
use Rattle.choice.specs.declared.Player.{Player}
use Rattle.choice.specs.declared.Held.{Held}
use Rattle.choice.proofs.Lengths.{chosen_le}
use Rattle.choice.specs.Laws.{NothingToDo, TargetSuffices}
use Rattle.choice.proofs.Cant.{same_player_law, both_not, inside_at}

-- ---- nothing to do

no_player : (c : ℕ) (p : Player) → player_step c p p ≡ []
unfolding player_step
no_player c p =
    sym
    (picks_first (same_player p p) [] (player_between (eqb p.mark 1) (eqb p.mark 1) c p p) (same_player_law p p refl))

same_held_law : (p : Held) → same_held p p ≡ true
same_held_law p = and_both _ _ (eq-eqb p.mark p.mark refl) (same_all_refl p.ten)

no_input : (c : ℕ) (p : Held) → input_step c p p ≡ []
unfolding input_step
no_input c p =
    sym
    (picks_second (eqb p.mark 1 && not (same_held p p)) (of_numbers kinds.InputNew (pos c ∷ p.ten) ∷ []) []
    (both_not (eqb p.mark 1) (not (same_held p p)) (λ _. ap not (same_held_law p))))

none_joined : (n : ℕ) (f : ℕ → List Rec) → ((c : ℕ) → f c ≡ []) → joined n f ≡ []
unfolding joined
none_joined zero f none = refl
none_joined (suc n) f none = rw (none_joined n f none, none n)

both_none : (a b : List Rec) → a ≡ [] → b ≡ [] → a ++ b ≡ []
both_none a b p q = rw (p, q)

no_changes : (e : Entries) → changes e e ≡ []
unfolding changes
no_changes e = both_none _ _ (none_joined 128 _ (λ c. no_player _ _)) (none_joined 128 _ (λ c. no_input _ _))

same_team_law : (m : Option ℤ) → same_team m m ≡ true
same_team_law (Some n) = same_refl n
same_team_law None = refl

no_team : (c : ℕ) (m : Option ℤ) → team_step c m m ≡ []
unfolding team_step
no_team c m = sym (picks_first (same_team m m) [] (team_record c m) (same_team_law m))

none_changed : (e : Entries) (t : List ℤ) → all_changes e t e t ≡ []
unfolding all_changes
none_changed e t = both_none _ _ (no_changes e) (none_joined 128 _ (λ c. no_team _ _))

no_skip : (t : ℤ) → skip_to t t ≡ []
unfolding skip_to
no_skip (pos t) = rw (le-ltb t t (omega arith))
no_skip (negsuc t) = refl

no_start : (i : Bool) (t : ℤ) (changed : Bool) → i ≡ true → start_if (started_by i t t) changed ≡ []
no_start i t changed h = rw (same_refl t, h)

none_chosen : (s : Scalars) (e : Entries) (t : List ℤ) → s.inside ≡ true → chosen s e t s.tick e t ≡ []
unfolding chosen
none_chosen s e t i = rw (no_skip s.tick, no_start s.inside s.tick (is_some (all_changes e t e t)) i, none_changed e t)

pub nothing_to_do : NothingToDo
unfolding board_of choice bytes_of
nothing_to_do r u w wt e =
    let s = r.reader.scalars in
    let b = inside_at s.inside s.tick u (ap (λ (x : TeamBoard). x.board.tick) e) in
    let f : w ≡ r.reader.entries = sym (ap (λ (x : TeamBoard). x.board.entries) e) in
    let g : wt ≡ r.teams = sym (ap (λ (x : TeamBoard). x.teams) e) in
    let t : u ≡ s.tick = sym b.1 in
    rw (f, g, t, none_chosen s r.reader.entries r.teams b.0)

-- ---- the target

to_le : (s : Scalars) (e : Entries) (t : List ℤ) (k : Option ℤ) (w : Entries) (wt : List ℤ) → length (choice_to s e t k w wt) ≤ 16384
to_le s e t (Some u) w wt = chosen_le s e t u w wt
to_le s e t None w wt = omega arith

number_is : {m n : ℕ} {k l : List ℤ} → ◌≡◌ {A = Said ℕ} (refuses m k) (refuses n l) → m ≡ n
number_is e = cc

fits_not_short : (xs bs : List ℕ) → length bs ≤ length xs → writing true xs 0 bs ≡ refusing ShortTarget → ⊥
unfolding writing
fits_not_short xs bs h e =
    let l = le-leb (0 + length bs) (length xs) (omega arith) in
    let q = picks_first (leb (0 + length bs) (length xs)) (gives (0 + length bs) 0) (refusing ShortTarget) l ∙ e in
    let z : ◌≡◌ {A = ℕ} 0 1 = cc in
    omega arith

pub target_suffices : TargetSuffices
unfolding may_reach choice
target_suffices r b xs h =
    let bs = choice r b in
    let s = r.reader.scalars in
    let e = r.reader.entries in
    let k = b.board.tick in
    let w = b.board.entries in
    let fits : length bs ≤ length xs = omega (arith, to_le s e r.teams k w b.teams) in
    let P : May → Type 0 = λ m. reach_says m xs bs ≡ refusing ShortTarget → ⊥ in
    by_cond P (good_team_reader r && good_team_board b)
    (λ _. by_cond P (is_closed s.standing)
    (λ _ e. omega (arith, number_is e))
    (λ _. by_cond P (is_pending s.pending)
    (λ _ e. omega (arith, number_is e))
    (λ _. by_cond P (unreachable s e r.teams k w b.teams)
    (λ _ e. omega (arith, number_is e))
    (λ _. fits_not_short xs bs fits))))
    (λ _ e. omega (arith, number_is e))
