-- A number of 32 bits and the next one, held in 64. Assumes nothing.
use Prim.Native.Nat.{zero, suc, ◌≤◌, ◌<◌}
use native.Mathlib.Omega.{arith}
use lib.IntN.{ℤ, pos, negsuc, suc_ℤ, ◌+ℤ◌, +ℤ_one}
use lib.Signed.{mag}
use mir.Syntax.{w64}
use mir.Val.{SFits}

pub wide : (z : ℤ) → mag z < 2147483648 → SFits w64 z
wide z h = record { sfits = omega arith }

after : (z : ℤ) → mag z < 2147483648 → mag (suc_ℤ z) ≤ 2147483648
after (pos n) h = omega arith
after (negsuc zero) h = omega arith
after (negsuc (suc n)) h = omega arith

pub wide_next : (z : ℤ) → mag z < 2147483648 → SFits w64 (z +ℤ pos 1)
wide_next z h = rw (+ℤ_one z) (record { sfits = omega (arith, after z h) })
