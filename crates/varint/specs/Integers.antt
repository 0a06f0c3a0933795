-- Reading an integer. docs/FORMAT.md, "Integers". Bytes and digits are naturals; only a value is a ℤ.
use Rattle.std.specs.Prelude.{ℕ, ◌+◌, ◌-◌, ◌*◌, ◌/◌, ◌%◌, ◌^◌, Bool, true, cond, List, [], ◌∷◌, get_or, drop, ltb, eqb, ℤ, Option, Some, None}
use Rattle.std.specs.Int.{w32}
use Rattle.std.proofs.Common.{to_z}
use Rattle.varint.specs.declared.Remark.{Remark}
use Rattle.varint.specs.declared.Remark.TheVariants.{Overlong, Padding}
use Rattle.varint.specs.declared.IntRead.{IntRead}
use Rattle.varint.specs.declared.IntRead.TheVariants.{Got, RunsOut}

-- the weight of a byte's lowest digit: 1 for the first byte, and for the k-th byte after it 2 to the power (7k - 1). So the first
-- byte is byte 0
abbrev pub weight : ℕ → ℕ
weight k = cond (eqb k 0) 1 (2 ^ (7 * k - 1))

-- the digits of byte k: six bits of the first, the low five of the fifth, seven of the others
abbrev pub digits : ℕ → ℕ → ℕ
digits k b = cond (eqb k 0) (b % 64) (cond (eqb k 4) (b % 32) (b % 128))

-- what byte k adds to the number
unfoldable pub amount : ℕ → ℕ → ℕ
amount k b = digits k b * weight k

-- bit 6 of the first byte
abbrev pub sign_of : ℕ → ℕ
sign_of b = b / 64 % 2

-- the sign inverts all 32 bits; the bits are then read as a signed number
unfoldable pub value_of : ℕ → ℕ → ℤ
value_of sign n = to_z w32 (cond (eqb sign 0) n (4294967295 - n))

-- byte k is the last: it is the fifth, or bit 7 is off
abbrev pub is_last : ℕ → ℕ → Bool
is_last k b = cond (eqb k 4) true (ltb b 128)

-- the remark on a number whose last byte is b, at k: overlong if there are several bytes and the last is 00, else padding if a
-- fifth byte has any of its four high bits set
unfoldable pub remark_of : ℕ → ℕ → Option Remark
remark_of k b = cond (eqb k 0) None (cond (eqb b 0) (Some Overlong) (cond (eqb k 4) (cond (ltb b 16) None (Some Padding)) None))

-- the rest of a number that begins at `at`, from byte k on, with the sign and the sum of the bytes before
unfoldable pub read_from : List ℕ → ℕ → ℕ → ℕ → ℕ → IntRead
read_from [] at k sign n = RunsOut
read_from (b ∷ s) at k sign n =
    cond (is_last k b)
    (Got (value_of sign (n + amount k b)) (at + k + 1) (remark_of k b))
    (read_from s at (k + 1) sign (n + amount k b))

-- the number at `at`: its value, the place past it and the remark; or that the bytes run out
unfoldable pub read_int : List ℕ → ℕ → IntRead
read_int s at = read_from (drop at s) at 0 (sign_of (get_or s at 0)) 0
