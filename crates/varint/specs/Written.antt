-- The written form of an integer: the one without a remark. What a target holds after bytes are written there, and the answer.
-- docs/FORMAT.md, "Integers" and "The writer".
use Rattle.std.specs.Prelude.{ℕ, zero, suc, ◌+◌, ◌/◌, ◌%◌, Bool, cond, List, [], ◌∷◌, ◌++◌, length, take, drop, leb, eqb, ℤ, pos, negsuc, Result, Ok, Err}
use Rattle.std.specs.Int.Signed.{mag}
use Rattle.refusal.specs.declared.Refusal.{Refusal}
use Rattle.refusal.specs.Said.{Said, gives, refusing}
use Rattle.refusal.specs.declared.Refusal.TheVariants.{ShortTarget, Unwritable}

-- `mag z` is n for n and for -(n + 1): the digits of z
abbrev pub sign_bit : ℤ → ℕ
sign_bit (pos n) = 0
sign_bit (negsuc n) = 64

-- the extend bit: on where something is left
abbrev pub extend : ℕ → ℕ
extend rest = cond (eqb rest 0) 0 128

abbrev pub first_byte : ℤ → ℕ
first_byte z = mag z % 64 + sign_bit z + extend (mag z / 64)

abbrev pub later_byte : ℕ → ℕ
later_byte rest = rest % 128 + extend (rest / 128)

-- the later bytes of what is left, at most so many
unfoldable pub later_bytes : ℕ → ℕ → List ℕ
later_bytes zero rest = []
later_bytes (suc n) rest = cond (eqb rest 0) [] (later_byte rest ∷ later_bytes n (rest / 128))

unfoldable pub canonical : ℤ → List ℕ
canonical z = first_byte z ∷ later_bytes 4 (mag z / 64)

-- ---- bytes into a target, at a place

abbrev pub fits_at : List ℕ → ℕ → List ℕ → Bool
fits_at xs at bs = leb (at + length bs) (length xs)

-- the target after it: the bytes in their place where they fit, else unchanged
unfoldable pub written : List ℕ → ℕ → List ℕ → List ℕ
written xs at bs = cond (fits_at xs at bs) (take at xs ++ bs ++ drop (at + length bs) xs) xs

-- what has a written form only under a condition: refusal 11 comes first
abbrev pub written_if : Bool → List ℕ → ℕ → List ℕ → List ℕ
written_if ok xs at bs = cond ok (written xs at bs) xs

-- ---- what writing says

-- of no bytes used: the place past the bytes written
abbrev pub wrote_said : Result ℕ Refusal → Said ℕ
wrote_said (Ok next) = gives next 0
wrote_said (Err r) = refusing r

-- 11 where there is no written form; 9 where it doesn't fit; else the place past it
unfoldable pub writing : Bool → List ℕ → ℕ → List ℕ → Said ℕ
writing ok xs at bs = cond ok (cond (fits_at xs at bs) (gives (at + length bs) 0) (refusing ShortTarget)) (refusing Unwritable)
