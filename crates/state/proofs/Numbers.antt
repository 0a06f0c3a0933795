-- Signed numbers and their bits; what a test picks. Assumes nothing.
use Prim.Native.Nat.{ℕ, ◌<◌}
use mathlib.Core.Path.{◌≡◌, refl, sym, ap, ◌∙◌}
use mathlib.Core.Bool.{Bool, true, false, cond}
use native.Mathlib.Omega.{arith}
use lib.IntN.{ℤ, pos, negsuc, ◌+ℤ◌}
use lib.Signed.{lt_z, mag}
use mir.Syntax.{w32}
use mir.Val.{SFits, to_z, of_z}
use mir.Facts.{to_z-of_z}
use Rattle.num.specs.Wrap.{wrap32}
use Rattle.state.specs.declared.Scalars.{Scalars}

pub picks_first : {A : Type 0} (b : Bool) (x y : A) → b ≡ true → x ≡ cond b x y
picks_first b x y e = rw e

pub picks_second : {A : Type 0} (b : Bool) (x y : A) → b ≡ false → y ≡ cond b x y
picks_second b x y e = rw e

-- a number read back from its bits
pub back : (z : ℤ) → SFits w32 z → to_z w32 (of_z w32 z) ≡ z
back z f = to_z-of_z {w = w32} {z = z} f

-- three of them
pub record Three (x y z : ℤ) : Type 0 where
  pub first : to_z w32 (of_z w32 x) ≡ x
  pub second : to_z w32 (of_z w32 y) ≡ y
  pub third : to_z w32 (of_z w32 z) ≡ z

-- those of scalars
pub record Kept (s : Scalars) : Type 0 where
  pub tick : to_z w32 (of_z w32 s.tick) ≡ s.tick
  pub largest : to_z w32 (of_z w32 s.largest) ≡ s.largest

-- the bits that `num::bits` gives
pub bits_are : (z : ℤ) (b : ℕ) → SFits w32 z → b ≡ of_z w32 (to_z w32 (of_z w32 z)) → b ≡ of_z w32 z
bits_are z b f e = e ∙ ap (of_z w32) (back z f)

-- the test of two numbers, from their bits
pub tested : (a b : ℤ) (t : Bool) → SFits w32 a → SFits w32 b → lt_z (to_z w32 (of_z w32 a)) (to_z w32 (of_z w32 b)) ≡ t → lt_z a b ≡ t
tested a b t f g e = rw (back a f, back b g) at e

-- bits below 2 ^ 31 are a natural number
pub low : (z : ℤ) → SFits w32 z → of_z w32 z < 2147483648 → z ≡ pos (of_z w32 z)
low (pos n) f h = refl
low (negsuc n) f h = absurd (omega (arith, f.sfits))

-- a client from its bits, where it has an entry
pub client_is : (z : ℤ) (b : ℕ) → SFits w32 z → b ≡ of_z w32 z → b < 128 → z ≡ pos b
client_is z b f e h = low z f (omega arith) ∙ ap pos (sym e)

-- an element of a list of numbers of 32 bits
pub element : (z : ℤ) → mag z < 2147483648 → to_z w32 (of_z w32 z) ≡ z
element z f = back z (record { sfits = f })

-- what `num::wrapping_add` gives, with the numbers read back from their bits
pub added : (x d r : ℤ) → SFits w32 x → SFits w32 d → SFits w32 r
    → r ≡ wrap32 (to_z w32 (of_z w32 x) +ℤ to_z w32 (of_z w32 d)) → to_z w32 (of_z w32 r) ≡ wrap32 (x +ℤ d)
added x d r fx fd fr e = back r fr ∙ e ∙ (λ k. wrap32 (back x fx k +ℤ back d fd k))
