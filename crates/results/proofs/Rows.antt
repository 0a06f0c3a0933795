-- A finish by the tests that the code makes: whether the client has a row, and whether its time is lower. Assumes nothing.
use Prim.Native.Nat.{ℕ, zero, suc, ◌<◌}
use mathlib.Core.Path.{◌≡◌, refl, sym, ap}
use mathlib.Core.Bool.{Bool, true, false}
use mathlib.Core.List.{List, [], ◌∷◌}
use lib.ListN.{get_or, set}
use lib.IntN.{ℤ, pos}
use lib.Signed.{le_z, mag}
use borrow.Author.Tests.{lt-ltb, ne_eqb}
use mir.Syntax.{w32}
use mir.Val.{SFits, to_z, of_z}
use Rattle.state.proofs.Numbers.{back, element}
use Rattle.results.specs.Results.{Finish, results_with, keep_at}
use Rattle.results.specs.declared.Results.{Results}
use Rattle.results.proofs.Order.{not_lower, is_lower_law}

-- the test of a kept time and a new one, from their bits
pub tested : (a b : ℤ) (t : Bool) → mag a < 2147483648 → SFits w32 b → le_z (to_z w32 (of_z w32 a)) (to_z w32 (of_z w32 b)) ≡ t → le_z a b ≡ t
tested a b t f g e = rw (element a f, back b g) at e

-- a mark that is 1 already
set_again : (marks : List ℕ) (c : ℕ) → get_or marks c 0 ≡ 1 → set marks c 1 ≡ marks
set_again [] c e = refl
set_again (m ∷ marks) zero e = ap (λ (x : ℕ). x ∷ marks) (sym e)
set_again (m ∷ marks) (suc c) e = ap (λ (xs : List ℕ). m ∷ xs) (set_again marks c e)

module _ (l : Results) (c : ℕ) (f : Finish) (h : c < 128) where
  pub row_stays : get_or l.marks c 0 ≡ 1 → le_z (get_or l.times c (pos 0)) f.time ≡ true → l ≡ keep_at l (pos c) f
  row_stays m t = rw (lt-ltb c 128 h, m, not_lower (get_or l.times c (pos 0)) f.time t)

  -- with what is stored, as it is read back
  module _ {time tick : ℤ} (p : time ≡ f.time) (q : tick ≡ f.tick) where
    pub lower_row : get_or l.marks c 0 ≡ 1 → le_z (get_or l.times c (pos 0)) f.time ≡ false
        → results_with l.marks (set l.times c time) (set l.ticks c tick) l.others ≡ keep_at l (pos c) f
    lower_row m t =
        rw (p, q, lt-ltb c 128 h, m, is_lower_law (get_or l.times c (pos 0)) f.time t, set_again l.marks c m)

    pub first_row_law : (get_or l.marks c 0 ≡ 1 → ⊥)
        → results_with (set l.marks c 1) (set l.times c time) (set l.ticks c tick) l.others ≡ keep_at l (pos c) f
    first_row_law m = rw (p, q, lt-ltb c 128 h, ne_eqb (get_or l.marks c 0) 1 m)
