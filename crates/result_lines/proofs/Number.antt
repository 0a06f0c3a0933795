-- The digits of a number, made from the last to the first. Assumes nothing.
use Prim.Native.Nat.{ℕ, zero, suc, ◌+◌, ◌-◌, ◌/◌, ◌%◌, ◌^◌, ◌≤◌, ◌<◌}
use mathlib.Core.Path.{◌≡◌, ◌∙◌}
use mathlib.Core.List.{List, ◌∷◌}
use native.Mathlib.Omega.{arith}
use native.Mathlib.Nat.{pow-suc}
use borrow.Author.Tests.{lt-ltb, le-ltb}
use lib.ListN.{length, take, drop, set, length-drop, length-set}
use lib.Seq.{take_all, drop-cons, drop-set-lt, get_or-set_same}
use Rattle.lines.specs.Lines.{decimal_digits, newline}
use Rattle.lines.proofs.Digits.{digits_le}

-- a byte put before those behind it
before : (bytes : List ℕ) (i v : ℕ) → i < length bytes → drop i (set bytes i v) ≡ v ∷ drop (suc i) bytes
before bytes i v h =
    let l : i < length (set bytes i v) = rw (length-set bytes i v) h in
    drop-cons (set bytes i v) i 0 l ∙ rw (get_or-set_same bytes i v 0 h, drop-set-lt (suc i) bytes i v (omega arith))

digit : (k left : ℕ) (rest : List ℕ) → 9 < left → decimal_digits k (left / 10) ((48 + left % 10) ∷ rest) ≡ decimal_digits (suc k) left rest
unfolding decimal_digits
digit k left rest h = let t = le-ltb left 10 h in rw t

first : (k left : ℕ) (rest : List ℕ) → left ≤ 9 → (48 + left) ∷ rest ≡ decimal_digits (suc k) left rest
unfolding decimal_digits
first k left rest h = let t = lt-ltb left 10 (omega arith) in rw t

-- the bytes from a place on are the last digits of n, with the line's end, and these are left
pub record Behind (n : ℕ) (bytes : List ℕ) (from left : ℕ) : Type 0 where
  pub some : 1 ≤ from
  pub most : from ≤ 20
  pub size : length bytes ≡ 21
  pub small : left < 10 ^ from
  pub digits : decimal_digits from left (drop from bytes) ≡ decimal_digits 20 n newline

module _ (n : ℕ) (bytes : List ℕ) where
  further : (k left : ℕ) → suc k ≤ 20 → length bytes ≡ 21 → left < 10 ^ suc k → 9 < left
      → decimal_digits (suc k) left (drop (suc k) bytes) ≡ decimal_digits 20 n newline
      → Behind n (set bytes k (48 + left % 10)) k (left / 10)
  further zero left m s l h d = absurd (omega (arith, pow-suc 10 0))
  further (suc k) left m s l h d =
      let i = suc k in
      record {
        some = omega arith;
        most = omega arith;
        size = length-set bytes i (48 + left % 10) ∙ s;
        small = omega (arith, pow-suc 10 i);
        digits = rw (before bytes i (48 + left % 10) (omega arith)) (digit i left (drop (suc i) bytes) h) ∙ d;
      }

  -- one digit more
  pub one_more : (from left : ℕ) → Behind n bytes from left → 9 < left
      → Behind n (set bytes (from - 1) (48 + left % 10)) (from - 1) (left / 10)
  one_more zero left b h = absurd (omega (arith, b.some))
  one_more (suc k) left b h =
      let e : suc k - 1 ≡ k = omega arith in
      rw e (further k left b.most b.size b.small h b.digits)

  -- the first digit: the bytes from it on
  pub first_one : (from left : ℕ) → Behind n bytes from left → left ≤ 9
      → take (21 - (from - 1)) (drop (from - 1) (set bytes (from - 1) (48 + left))) ≡ decimal_digits 20 n newline
  first_one zero left b h = absurd (omega (arith, b.some))
  first_one (suc k) left b h =
      let e : suc k - 1 ≡ k = omega arith in
      let all = set bytes k (48 + left) in
      rw e
      (take_all (21 - k) (drop k all) (omega (arith, length-drop k all, length-set bytes k (48 + left), b.size))
      ∙ before bytes k (48 + left) (omega (arith, b.size, b.most))
      ∙ first k left (drop (suc k) bytes) h
      ∙ b.digits)

-- with the line's end, at most 21 bytes
pub number_le : (n : ℕ) → length (decimal_digits 20 n newline) ≤ 21
number_le n = digits_le 20 n newline
