-- The tests of a state: a choice of two, equal numbers, numbers that aren't negative. Assumes nothing.
use Prim.Native.Nat.{suc, ◌-◌}
use mathlib.Core.Path.{◌≡◌, refl, sym, ◌∙◌}
use mathlib.Core.Bool.{Bool, true, false, cond, ◌||◌}
use native.Mathlib.Omega.{arith}
use native.Mathlib.Decide.{ℕ_discrete}
use lib.Dec.{eqb, leb-zero}
use lib.IntN.{ℤ, pos, negsuc}
use lib.Signed.{le_z, non_neg}
use borrow.Author.Tests.{eq-eqb, ne_eqb}
use mir.Syntax.{w32}
use mir.Val.{SFits, of_z}
use Rattle.num.proofs.Cases.{by_eq}
use Rattle.state.specs.State.{same_int}

pub one_or : (a b : Bool) → (a || b) ≡ cond a true b
one_or true b = refl
one_or false b = refl

-- the test of two numbers compares their bits
pub same_bits : (a b : ℤ) → SFits w32 a → SFits w32 b → eqb (of_z w32 a) (of_z w32 b) ≡ same_int a b
same_bits (pos m) (pos n) f g = refl
same_bits (pos m) (negsuc n) f g = ne_eqb m (4294967296 - suc n) (λ h. omega (arith, f.sfits, g.sfits))
same_bits (negsuc m) (pos n) f g = ne_eqb (4294967296 - suc m) n (λ h. omega (arith, f.sfits, g.sfits))
same_bits (negsuc m) (negsuc n) f g =
    by_eq m n
    (λ e. rw e (eq-eqb (4294967296 - suc n) _ refl ∙ sym (eq-eqb n n refl)))
    (λ e. ne_eqb (4294967296 - suc m) (4294967296 - suc n) (λ h. e (omega (arith, f.sfits, g.sfits))) ∙ sym (ne_eqb m n e))
    (ℕ_discrete m n)

pub from_zero : (z : ℤ) → le_z (pos 0) z ≡ non_neg z
from_zero (pos n) = leb-zero n
from_zero (negsuc n) = refl
