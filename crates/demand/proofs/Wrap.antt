-- Sums that wrap at 32 bits are sums modulo 2 ^ 32. Assumes nothing.
use Prim.Native.Nat.{ℕ, suc, ◌+◌, ◌%◌, ◌<◌}
use mathlib.Core.Path.{◌≡◌, sym, ◌∙◌, ap}
use native.Mathlib.Omega.{arith}
use lib.Dec.{ltb}
use lib.IntN.{ℤ, pos, negsuc, sub_ℕ, ◌+ℤ◌}
use borrow.Author.Tests.{ltb-true, ltb-false}
use mir.Syntax.{w32}
use mir.Val.{SFits, to_z, of_z}
use mir.Facts.{to_z-of_z}
use Rattle.num.specs.Wrap.{residue, wrap32}
use Rattle.num.proofs.Cases.{by_bool}

residue_fits : (z : ℤ) → SFits w32 z → residue z ≡ of_z w32 z
residue_fits (pos n) f = omega (arith, f.sfits)
residue_fits (negsuc n) f = omega (arith, f.sfits)

-- a number of 32 bits is its own wrap
pub wrap_fits : (z : ℤ) → SFits w32 z → wrap32 z ≡ z
wrap_fits z f = ap (to_z w32) (residue_fits z f) ∙ to_z-of_z {w = w32} {z = z} f

residue_below : (z : ℤ) → residue z < 4294967296
residue_below (pos n) = omega arith
residue_below (negsuc n) = omega arith

residue_read : (n : ℕ) → n < 4294967296 → residue (to_z w32 n) ≡ n
residue_read n h =
    by_bool (ltb n 2147483648)
    (λ e. rw e (omega arith))
    (λ e. rw e (omega (arith, ltb-false n 2147483648 e)))

residue_sub : (a b : ℕ) → residue (sub_ℕ a (suc b)) ≡ (residue (pos a) + residue (negsuc b)) % 4294967296
residue_sub a b =
    by_bool (ltb a (suc b))
    (λ e. let h = ltb-true a (suc b) e in rw e (omega arith))
    (λ e. let h = ltb-false a (suc b) e in rw e (omega arith))

residue_add : (a b : ℤ) → residue (a +ℤ b) ≡ (residue a + residue b) % 4294967296
residue_add (pos a) (pos b) = omega arith
residue_add (pos a) (negsuc b) = residue_sub a b
residue_add (negsuc a) (pos b) = residue_sub b a ∙ ap (λ (n : ℕ). n % 4294967296) (omega arith)
residue_add (negsuc a) (negsuc b) = omega arith

-- a sum may be wrapped as it grows
pub wrap_add : (a b : ℤ) → wrap32 (wrap32 a +ℤ b) ≡ wrap32 (a +ℤ b)
wrap_add a b =
    ap (to_z w32)
    (residue_add (wrap32 a) b
    ∙ ap (λ (n : ℕ). (n + residue b) % 4294967296) (residue_read (residue a) (residue_below a))
    ∙ sym (residue_add a b))
