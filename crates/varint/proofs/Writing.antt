-- Laws of the definitions of specs/Written.antt. Assumes nothing.
use Rattle.std.specs.Prelude.{Ok, Err}
use Prim.Native.Nat.{ℕ, zero, suc, ◌+◌, ◌-◌, ◌/◌, ◌^◌, ◌≤◌, ◌<◌}
use mathlib.Core.Path.{◌≡◌, refl}
use mathlib.Core.List.{List, [], ◌∷◌}
use mathlib.Core.Bool.{Bool, true, false, cond}
use native.Mathlib.Omega.{arith}
use native.Mathlib.Nat.{pow-suc}
use native.Mathlib.Numerals.{add-one}
use lib.ListN.{length, set}
use lib.Seq.{sets, sets-eq}
use lib.Dec.{eqb}
use lib.IntN.{ℤ, pos, negsuc}
use lib.Signed.{mag}
use borrow.Author.Tests.{ne_eqb, le-leb, lt-leb}
use Rattle.varint.specs.Written.{sign_bit, extend, later_byte, later_bytes, canonical, written}
use Rattle.varint.specs.steps.Writing.{wrote}
use Rattle.refusal.specs.declared.Refusal.TheVariants.{ShortTarget}

pub sign_bit_le : (z : ℤ) → sign_bit z ≤ 64
sign_bit_le (pos n) = omega arith
sign_bit_le (negsuc n) = omega arith

cond_le : (t : Bool) → cond t 0 128 ≤ 128
cond_le true = omega arith
cond_le false = omega arith

pub extend_le : (rest : ℕ) → extend rest ≤ 128
extend_le rest = cond_le (eqb rest 0)

pub later_none : (n : ℕ) → later_bytes n 0 ≡ []
unfolding later_bytes
later_none zero = refl
later_none (suc n) = refl

pub later_cons : (n rest : ℕ) → (rest ≡ 0 → ⊥) → later_bytes (suc n) rest ≡ later_byte rest ∷ later_bytes n (rest / 128)
unfolding later_bytes
later_cons n rest more = rw (ne_eqb rest 0 more)

-- one later byte, of at most n
module _ (rest : ℕ) (more : rest ≡ 0 → ⊥) where
  pub left : (n : ℕ) → rest < 128 ^ n → (0 < n) × (rest / 128 < 128 ^ (n - 1))
  left zero h = absurd (more (omega arith))
  left (suc n) h =
      let e : suc n - 1 ≡ n = omega arith in
      let p = pow-suc 128 n in
      (omega arith, rw e (omega arith))

  pub later_one : (n : ℕ) → rest < 128 ^ n → later_bytes n rest ≡ later_byte rest ∷ later_bytes (n - 1) (rest / 128)
  unfolding later_bytes
  later_one zero h = absurd (more (omega arith))
  later_one (suc n) h =
      let e : suc n - 1 ≡ n = omega arith in
      simp (ne_eqb rest 0 more, e)

  pub put_one : (out : List ℕ) (i n : ℕ) → rest < 128 ^ n → sets out i (later_bytes n rest) ≡ sets (set out i (later_byte rest)) (i + 1) (later_bytes (n - 1) (rest / 128))
  put_one out i n h = rw (later_one n h, add-one)

module _ (xs : List ℕ) (at : ℕ) (bs : List ℕ) where
  pub fits_written : at + length bs ≤ length xs → sets xs at bs ≡ written xs at bs
  unfolding written
  fits_written h = simp (le-leb (at + length bs) (length xs) h) (sets-eq bs xs at h)

  pub fits_answer : at + length bs ≤ length xs → Ok (at + length bs) ≡ wrote xs at bs
  unfolding wrote
  fits_answer h = simp (le-leb (at + length bs) (length xs) h)

  pub short : length xs < at + length bs → (Err ShortTarget ≡ wrote xs at bs) × (xs ≡ written xs at bs)
  unfolding written wrote
  short h = (simp (lt-leb (at + length bs) (length xs) h), simp (lt-leb (at + length bs) (length xs) h))

cond_length : (t : Bool) (b n : ℕ) (xs : List ℕ) → length xs ≤ n → length (cond t [] (b ∷ xs)) ≤ suc n
cond_length true b n xs h = omega arith
cond_length false b n xs h = omega arith

pub later_le : (n rest : ℕ) → length (later_bytes n rest) ≤ n
unfolding later_bytes
later_le zero rest = omega arith
later_le (suc n) rest =
    cond_length (eqb rest 0) (later_byte rest) n (later_bytes n (rest / 128)) (later_le n (rest / 128))

pub canonical_le : (z : ℤ) → length (canonical z) ≤ 5
unfolding canonical
canonical_le z = omega (arith, later_le 4 (mag z / 64))
