-- Laws of the definitions of specs/Integers.antt. Assumes nothing.
use Rattle.std.specs.Prelude.{None}
use Prim.Native.Nat.{ℕ, zero, suc, ◌+◌, ◌-◌, ◌≤◌, ◌<◌}
use mathlib.Core.Path.{◌≡◌}
use mathlib.Core.List.{List}
use native.Mathlib.Omega.{arith}
use native.Mathlib.Numerals.{add-one}
use borrow.Author.Tests.{lt-ltb}
use mathlib.Core.Bool.{true, false, cond}
use lib.ListN.{length, get_or, take, drop, length-drop, drop_of_length-le}
use lib.Seq.{drop-cons, get_or-drop, take-length}
use lib.Dec.{eqb}
use Rattle.varint.specs.Integers.{weight, amount, sign_of, value_of, is_last, remark_of, read_from, read_int}
use Rattle.varint.specs.declared.IntRead.TheVariants.{Got, RunsOut}

-- the sum of the first k bytes is below this: the weight of the next one, and of all five 2 to the power 32
abbrev pub limit : ℕ → ℕ
limit k = cond (eqb k 5) 4294967296 (weight k)

pub grows : (k b : ℕ) → k < 5 → (amount k b + limit k ≤ limit (k + 1)) × ((limit (k + 1) ≤ 4294967296) × (0 < limit k))
unfolding amount
grows zero b h = omega arith
grows (suc zero) b h = omega arith
grows (suc (suc zero)) b h = omega arith
grows (suc (suc (suc zero))) b h = omega arith
grows (suc (suc (suc (suc zero)))) b h = omega arith
grows (suc (suc (suc (suc (suc k))))) b h = absurd (omega arith)

-- one byte of `read_from`, the last or not
module _ (s : List ℕ) (at k sign n i : ℕ) (within : i < length s) where
  pub read_last : is_last k (get_or s i 0) ≡ true → read_from (drop i s) at k sign n ≡ Got (value_of sign (n + amount k (get_or s i 0))) (at + k + 1) (remark_of k (get_or s i 0))
  unfolding read_from
  read_last e = simp (drop-cons s i 0 within, e)

  pub read_more : is_last k (get_or s i 0) ≡ false → read_from (drop i s) at k sign n ≡ read_from (drop (i + 1) s) at (k + 1) sign (n + amount k (get_or s i 0))
  unfolding read_from
  read_more e = simp (drop-cons s i 0 within, e, add-one)

-- no byte stands there
pub none_left : (s : List ℕ) (at : ℕ) → length s ≤ at → read_int s at ≡ RunsOut
unfolding read_int read_from
none_left s at h = simp (drop_of_length-le s h)

-- a first byte that does not extend is the whole number
pub one_byte :
    (s : List ℕ) (at : ℕ) → at < length s → get_or s at 0 < 128
    → read_int s at ≡ Got (value_of (sign_of (get_or s at 0)) (amount 0 (get_or s at 0))) (at + 1) None
unfolding read_int remark_of
one_byte s at within h =
    let b = get_or s at 0 in
    let e : is_last 0 b ≡ true = lt-ltb b 128 h in
    let n : 0 + amount 0 b ≡ amount 0 b = omega arith in
    let p : at + 0 + 1 ≡ at + 1 = omega arith in
    rw (n, p) at (read_last s at 0 (sign_of b) 0 at within e)

pub not_last : (k b : ℕ) → k < 5 → is_last k b ≡ false → k + 1 < 5
not_last zero b h e = omega arith
not_last (suc zero) b h e = omega arith
not_last (suc (suc zero)) b h e = omega arith
not_last (suc (suc (suc zero))) b h e = omega arith
not_last (suc (suc (suc (suc zero)))) b h e = let z : ◌≡◌ {A = ℕ} 0 1 = cc in omega arith
not_last (suc (suc (suc (suc (suc k))))) b h e = absurd (omega arith)

-- ---- the elements of `&s[at..]`, as a loop sees them

module _ (s : List ℕ) (at : ℕ) where
  pub tail_is : take (length s - at) (drop at s) ≡ drop at s
  tail_is = rw (← length-drop at s) (take-length (drop at s))

  pub tail_at : (k : ℕ) → get_or (take (length s - at) (drop at s)) k 0 ≡ get_or s (at + k) 0
  tail_at k = rw (tail_is, get_or-drop at s k 0)

  pub tail_length : length (take (length s - at) (drop at s)) ≡ length s - at
  tail_length = rw tail_is (length-drop at s)
