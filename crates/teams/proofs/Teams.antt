-- Teams by the tests that the code makes: b is the client's bits. Assumes nothing.
use Rattle.std.specs.Prelude.{Option, Some, None}
use Prim.Native.Nat.{ℕ, suc, ◌+◌, ◌*◌, ◌-◌, ◌≤◌, ◌<◌}
use mathlib.Core.Path.{◌≡◌, refl, sym, ◌∙◌}
use mathlib.Core.Bool.{Bool, true, false, cond, ◌&&◌, ◌||◌}
use mathlib.Core.List.{List}
use native.Mathlib.Omega.{arith}
use native.Mathlib.Decide.{ℕ_discrete}
use lib.ListN.{set}
use lib.Dec.{eqb, ltb}
use lib.IntN.{ℤ, pos, negsuc}
use borrow.Author.Tests.{lt-ltb, le-ltb, eq-eqb, ne_eqb}
use mir.Syntax.{w32}
use mir.Val.{SFits, of_z}
use Rattle.num.proofs.Cases.{by_eq}
use Rattle.state.specs.State.{same_int}
use Rattle.state.specs.Reading.{Event}
use Rattle.state.proofs.Numbers.{picks_first, picks_second, client_is}
use Rattle.teams.specs.Teams.{mark_of, number_of, has_team, team_of, mark_for, number_for, with_team, put_team, good_team, joins, nobody, joining_of, teams_after, former_team}

-- the test of two numbers compares their bits
pub same_bits : (a b : ℤ) → SFits w32 a → SFits w32 b → eqb (of_z w32 a) (of_z w32 b) ≡ same_int a b
same_bits (pos m) (pos n) f g = refl
same_bits (pos m) (negsuc n) f g = ne_eqb m (4294967296 - suc n) (λ h. omega (arith, f.sfits, g.sfits))
same_bits (negsuc m) (pos n) f g = ne_eqb (4294967296 - suc m) n (λ h. omega (arith, f.sfits, g.sfits))
same_bits (negsuc m) (negsuc n) f g =
    by_eq m n
    (λ e. rw e (eq-eqb (4294967296 - suc n) _ refl ∙ sym (eq-eqb n n refl)))
    (λ e. ne_eqb (4294967296 - suc m) (4294967296 - suc n) (λ h. e (omega (arith, f.sfits, g.sfits))) ∙ sym (ne_eqb m n e))
    (ℕ_discrete m n)

one : SFits w32 (pos 1)
one = record { sfits = omega arith }

nought : SFits w32 (pos 0)
nought = record { sfits = omega arith }

one_or : (a b : Bool) → (a || b) ≡ cond a true b
one_or true b = refl
one_or false b = refl

pub entry_tested : (mark number : ℤ) → SFits w32 mark → SFits w32 number
    → (eqb (of_z w32 mark) 1 || (eqb (of_z w32 mark) 0 && eqb (of_z w32 number) 0)) ≡ good_team mark number
entry_tested mark number f g =
    rw (same_bits mark (pos 1) f one, same_bits mark (pos 0) f nought, same_bits number (pos 0) g nought)
    (one_or (same_int mark (pos 1)) _)

pub team_far : (t : List ℤ) (z : ℤ) (b : ℕ) → b ≡ of_z w32 z → 128 ≤ b → None ≡ team_of t z
team_far t (pos c) b q h = rw (le-ltb c 128 (omega arith)) refl
team_far t (negsuc c) b q h = refl

pub put_far : (t : List ℤ) (z : ℤ) (b : ℕ) (m : Option ℤ) → b ≡ of_z w32 z → 128 ≤ b → t ≡ put_team t z m
put_far t (pos c) b m q h = picks_second (ltb c 128) _ t (le-ltb c 128 (omega arith))
put_far t (negsuc c) b m q h = refl

module _ (t : List ℤ) (z : ℤ) (b : ℕ) (f : SFits w32 z) (q : b ≡ of_z w32 z) (h : b < 128) where
  pub team_away : SFits w32 (mark_of t b) → (of_z w32 (mark_of t b) ≡ 1 → ⊥) → None ≡ team_of t z
  team_away g n =
      let e : same_int (mark_of t b) (pos 1) ≡ false = sym (same_bits (mark_of t b) (pos 1) g one) ∙ ne_eqb _ 1 n in
      rw (client_is z b f q h) (picks_second (has_team t b) _ None (rw (lt-ltb b 128 h) e))

  pub team_here : SFits w32 (mark_of t b) → of_z w32 (mark_of t b) ≡ 1 → Some (number_of t b) ≡ team_of t z
  team_here g n =
      let e : same_int (mark_of t b) (pos 1) ≡ true = sym (same_bits (mark_of t b) (pos 1) g one) ∙ eq-eqb _ 1 n in
      rw (client_is z b f q h) (picks_first (has_team t b) _ None (rw (lt-ltb b 128 h) e))

  pub put_here : (m : Option ℤ) → set (set t (2 * b) (mark_for m)) (2 * b + 1) (number_for m) ≡ put_team t z m
  unfolding with_team
  put_here m = rw (client_is z b f q h) (picks_first (ltb b 128) _ t (lt-ltb b 128 h))

-- ---- an event

pub nobody_joins : (e : Event) (t : List ℤ) → nobody ≡ joining_of e → (None ≡ former_team e t) × (t ≡ teams_after e t)
unfolding former_team teams_after
nobody_joins e t q = rw (← q) (refl, refl)

pub somebody_joins : (e : Event) (t : List ℤ) (c n : ℤ) → joins c n ≡ joining_of e
    → (team_of t c ≡ former_team e t) × (put_team t c (Some n) ≡ teams_after e t)
unfolding former_team teams_after
somebody_joins e t c n q = rw (← q) (refl, refl)
