-- Laws of a number's digits. Assumes nothing.
use Prim.Native.Nat.{ℕ, zero, suc, ◌+◌, ◌/◌, ◌%◌, ◌^◌, ◌≤◌, ◌<◌}
use mathlib.Core.Path.{◌≡◌, refl, sym, ◌∙◌, ap}
use mathlib.Core.Bool.{Bool, true, false, cond}
use mathlib.Core.List.{List, [], ◌∷◌, ◌++◌, append_assoc}
use native.Mathlib.Omega.{arith}
use native.Mathlib.Nat.{pow-suc}
use lib.ListN.{length}
use lib.Dec.{ltb}
use borrow.Author.Tests.{lt-ltb, le-ltb}
use Rattle.packer.proofs.Joined.{Put, first_fits, next_fits, two_puts}
use Rattle.lines.specs.Lines.{decimal_digits, natural}

cond_append : (t : Bool) (x y b : List ℕ) → cond t x y ++ b ≡ cond t (x ++ b) (y ++ b)
cond_append true x y b = refl
cond_append false x y b = refl

-- the bytes behind the digits
digits_before : (k n : ℕ) (a b : List ℕ) → decimal_digits k n (a ++ b) ≡ decimal_digits k n a ++ b
unfolding decimal_digits
digits_before zero n a b = refl
digits_before (suc k) n a b =
    ap (cond (ltb n 10) ((48 + n) ∷ (a ++ b))) (digits_before k (n / 10) ((48 + n % 10) ∷ a) b)
    ∙ sym (cond_append (ltb n 10) ((48 + n) ∷ a) (decimal_digits k (n / 10) ((48 + n % 10) ∷ a)) b)

-- where so many digits are enough, more are allowed in vain
steady : (k n : ℕ) (rest : List ℕ) → n < 10 ^ suc k → decimal_digits (suc k) n rest ≡ decimal_digits (suc (suc k)) n rest
unfolding decimal_digits
steady zero n rest h = let t = lt-ltb n 10 (omega (arith, pow-suc 10 0)) in simp t
steady (suc k) n rest h =
    ap (cond (ltb n 10) ((48 + n) ∷ rest)) (steady k (n / 10) ((48 + n % 10) ∷ rest) (omega (arith, pow-suc 10 (suc k))))

cond_length : (t : Bool) (x y : List ℕ) (n : ℕ) → length x ≤ n → length y ≤ n → length (cond t x y) ≤ n
cond_length true x y n h j = h
cond_length false x y n h j = j

pub digits_le : (k n : ℕ) (rest : List ℕ) → length (decimal_digits k n rest) ≤ k + length rest
unfolding decimal_digits
digits_le zero n rest = omega arith
digits_le (suc k) n rest =
    cond_length (ltb n 10) ((48 + n) ∷ rest) (decimal_digits k (n / 10) ((48 + n % 10) ∷ rest)) (suc k + length rest) (omega arith)
    (omega (arith, digits_le k (n / 10) ((48 + n % 10) ∷ rest)))

pub natural_le : (n : ℕ) → length (natural n) ≤ 10
unfolding natural
natural_le n = omega (arith, digits_le 10 n [])

pub natural_one : (n : ℕ) → n ≤ 9 → natural n ≡ (48 + n) ∷ []
unfolding natural decimal_digits
natural_one n h = let t = lt-ltb n 10 (omega arith) in simp t

pub natural_more : (n : ℕ) → 9 < n → n < 4294967296 → natural n ≡ natural (n / 10) ++ ((48 + n % 10) ∷ [])
unfolding natural decimal_digits
natural_more n h f =
    let t = le-ltb n 10 (omega arith) in
    let d = (48 + n % 10) ∷ [] in
    rw t (digits_before 9 (n / 10) [] d ∙ ap (λ (a : List ℕ). a ++ d) (steady 8 (n / 10) [] (omega arith)))

-- the two digits of a number below 100, a 0 before one that has only one; the four of a number below 10000
abbrev pub pair : ℕ → List ℕ
pair n = (48 + n / 10) ∷ (48 + n % 10) ∷ []

abbrev pub pairs : ℕ → List ℕ
pairs n = pair (n / 100) ++ pair (n % 100)

pub natural_two : (n : ℕ) → 9 < n → n < 100 → natural n ≡ pair n
natural_two n h k = natural_more n h (omega arith) ∙ rw (natural_one (n / 10) (omega arith))

natural_pair : (n : ℕ) → 99 < n → n < 4294967296 → natural n ≡ natural (n / 100) ++ pair (n % 100)
natural_pair n h f =
    let a : n / 10 / 10 ≡ n / 100 = omega arith in
    let b : n / 10 % 10 ≡ n % 100 / 10 = omega arith in
    let c : n % 10 ≡ n % 100 % 10 = omega arith in
    natural_more n (omega arith) f ∙ rw (natural_more (n / 10) (omega arith) (omega arith), append_assoc, a, b, c)

natural_pairs : (n : ℕ) → 9999 < n → n < 4294967296 → natural n ≡ natural (n / 10000) ++ pairs (n % 10000)
natural_pairs n h f =
    let a : n / 100 / 100 ≡ n / 10000 = omega arith in
    let b : n / 100 % 100 ≡ n % 10000 / 100 = omega arith in
    let c : n % 100 ≡ n % 10000 % 100 = omega arith in
    natural_pair n (omega arith) f ∙ rw (natural_pair (n / 100) (omega arith) (omega arith), append_assoc, a, b, c)

-- a number put as a shorter one and the digits behind it
pub record Halves (xs : List ℕ) (at n high : ℕ) (low : List ℕ) : Type 0 where
  pub high_fits : at + length (natural high) ≤ length xs
  pub low_fits : (next : ℕ) (ys : List ℕ) → Put xs at (natural high) next ys → next + length low ≤ length ys
  pub both : (next : ℕ) (ys : List ℕ) → Put xs at (natural high) next ys → (m : ℕ) (zs : List ℕ) → Put ys next low m zs → Put xs at (natural n) m zs

module _ (xs : List ℕ) (at n : ℕ) (fits : at + length (natural n) ≤ length xs) where
  halves : (high : ℕ) (low : List ℕ) → natural n ≡ natural high ++ low → Halves xs at n high low
  halves high low e =
      let split : at + length (natural high ++ low) ≤ length xs = rw e at fits in
      record {
        high_fits = first_fits xs at (natural high) low split;
        low_fits = next_fits xs at (natural high) low split;
        both = λ next ys p m zs q. rw e (two_puts xs at (natural high) low split next ys p m zs q);
      }

  pub by_pair : 99 < n → n < 4294967296 → Halves xs at n (n / 100) (pair (n % 100))
  by_pair h f = halves (n / 100) (pair (n % 100)) (natural_pair n h f)

  pub by_pairs : 9999 < n → n < 4294967296 → Halves xs at n (n / 10000) (pairs (n % 10000))
  by_pairs h f = halves (n / 10000) (pairs (n % 10000)) (natural_pairs n h f)
