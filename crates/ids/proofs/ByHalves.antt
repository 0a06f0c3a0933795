-- 16 bytes by the numbers of their halves: comparing them compares the bytes, and each byte can be had back. Assumes nothing.
use Prim.Native.Nat.{ℕ, zero, suc, ◌+◌, ◌-◌, ◌*◌, ◌/◌, ◌%◌, ◌^◌, ◌≤◌, ◌<◌}
use mathlib.Core.Path.{◌≡◌, refl, sym, ap, ◌∙◌}
use mathlib.Core.Bool.{Bool, true, false, ◌&&◌, and-eq-true_iff}
use mathlib.Core.List.{List, [], ◌∷◌, ◌++◌}
use native.Mathlib.Omega.{arith}
use lib.Dec.{eqb, ltb}
use lib.ListN.{length, take, drop, get_or, length-drop, take-append-drop}
use lib.Seq.{take-add, take-take, drop-drop, drop_at, length-take-le}
use borrow.Author.Tests.{ltb-true, eqb-true, eqb-false}
use Rattle.num.proofs.Cases.{by_bool}
use Rattle.kinds.specs.Magic.{same_bytes}
use Rattle.ids.specs.steps.Table.{big_endian, AllBytes, Sixteen}
use Rattle.ids.proofs.Same.{front, same_refl, same_true}
use Rattle.ids.proofs.Below.{below, at}

-- ---- bytes, and their number

bytes_take : (n : ℕ) (xs : List ℕ) → AllBytes xs → AllBytes (take n xs)
bytes_take zero xs a = tt
bytes_take (suc n) [] a = tt
bytes_take (suc n) (x ∷ xs) a = (a.0, bytes_take n xs a.1)

bytes_drop : (n : ℕ) (xs : List ℕ) → AllBytes xs → AllBytes (drop n xs)
bytes_drop zero xs a = a
bytes_drop (suc n) [] a = tt
bytes_drop (suc n) (x ∷ xs) a = bytes_drop n xs a.1

bytes_part : (s : List ℕ) → ((i : ℕ) → get_or s i 0 < 256) → (n a : ℕ) → a + n ≤ length s → AllBytes (take n (drop a s))
bytes_part s g zero a h = tt
bytes_part s g (suc n) a h = rw (front s a n (omega arith)) (g a, bytes_part s g n (a + 1) (omega arith))

number_append : (n : ℕ) (xs ys : List ℕ) → big_endian n (xs ++ ys) ≡ big_endian (big_endian n xs) ys
number_append n [] ys = refl
number_append n (x ∷ xs) ys = number_append (n * 256 + x) xs ys

-- as many bytes with the same number are the same
number_same : (n m : ℕ) (xs ys : List ℕ) → length xs ≡ length ys → AllBytes xs → AllBytes ys → big_endian n xs ≡ big_endian m ys
    → (n ≡ m) × (xs ≡ ys)
number_same n m [] [] l a b e = (e, refl)
number_same n m [] (y ∷ ys) l a b e = absurd (omega arith)
number_same n m (x ∷ xs) [] l a b e = absurd (omega arith)
number_same n m (x ∷ xs) (y ∷ ys) l a b e =
    let r = number_same (n * 256 + x) (m * 256 + y) xs ys (omega arith) a.1 b.1 e in
    let p : n ≡ m = omega (arith, r.0, a.0, b.0) in
    let q : x ≡ y = omega (arith, r.0, a.0, b.0) in
    (p, rw (q, r.1))

-- ---- four bytes and eight at a place

four : (s : List ℕ) (a : ℕ) → a + 4 ≤ length s → take 4 (drop a s) ≡ get_or s a 0 ∷ get_or s (a + 1) 0 ∷ get_or s (a + 2) 0 ∷ get_or s (a + 3) 0 ∷ []
four s a h =
    let p : a + 1 + 1 ≡ a + 2 = omega arith in
    let q : a + 2 + 1 ≡ a + 3 = omega arith in
    rw (front s a 3 (omega arith), front s (a + 1) 2 (omega arith), p, front s (a + 2) 1 (omega arith), q, front s (a + 3) 0 (omega arith))

module _ (s : List ℕ) (a : ℕ) where
  halved : (n : ℕ) → take (n + n) (drop a s) ≡ take n (drop a s) ++ take n (drop (a + n) s)
  halved n = rw (take-add n n (drop a s), drop-drop n a s)

  pub eight : a + 8 ≤ length s
      → take 8 (drop a s)
      ≡ get_or s a 0 ∷ get_or s (a + 1) 0 ∷ get_or s (a + 2) 0 ∷ get_or s (a + 3) 0 ∷ get_or s (a + 4) 0 ∷ get_or s (a + 5) 0 ∷ get_or s (a + 6) 0
      ∷ get_or s (a + 7) 0 ∷ []
  eight h =
      let p : a + 4 + 1 ≡ a + 5 = omega arith in
      let q : a + 4 + 2 ≡ a + 6 = omega arith in
      let r : a + 4 + 3 ≡ a + 7 = omega arith in
      rw (halved 4, four s a (omega arith), four s (a + 4) (omega arith), p, q, r)

-- ---- each byte of a half can be had back

abbrev is_byte : List ℕ → ℕ → Bool
is_byte xs j =
    eqb (big_endian 0 (take 8 xs) / 256 ^ (7 - j) % 256) (get_or xs j 0)
    && eqb (big_endian 0 (drop 8 xs) / 256 ^ (7 - j) % 256) (get_or xs (8 + j) 0)

abbrev every : List ℕ → Bool
every [] = true
every (b ∷ bs) = ltb b 256 && every bs

all_bytes : (xs : List ℕ) → every xs ≡ true → AllBytes xs
all_bytes [] e = tt
all_bytes (b ∷ bs) e = let h = (and-eq-true_iff (ltb b 256) (every bs)).0 e in (ltb-true b 256 h.0, all_bytes bs h.1)

-- 16 bytes, and those of the halves' numbers
abbrev pub is_id : List ℕ → Bool
is_id xs = (every xs && eqb (length xs) 16) && below (is_byte xs) 8

pub sixteen : (xs : List ℕ) → is_id xs ≡ true → Sixteen xs
sixteen xs h =
    let a = ((and-eq-true_iff (every xs && eqb (length xs) 16) (below (is_byte xs) 8)).0 h).0 in
    let b = (and-eq-true_iff (every xs) (eqb (length xs) 16)).0 a in
    record { bytes = all_bytes xs b.0; size = eqb-true (length xs) 16 b.1 }

module _ (xs : List ℕ) (h : is_id xs ≡ true) (j : ℕ) (l : j < 8) where
  both : (big_endian 0 (take 8 xs) / 256 ^ (7 - j) % 256 ≡ get_or xs j 0) × (big_endian 0 (drop 8 xs) / 256 ^ (7 - j) % 256 ≡ get_or xs (8 + j) 0)
  both =
      let f = big_endian 0 (take 8 xs) / 256 ^ (7 - j) % 256 in
      let s = big_endian 0 (drop 8 xs) / 256 ^ (7 - j) % 256 in
      let all = ((and-eq-true_iff (every xs && eqb (length xs) 16) (below (is_byte xs) 8)).0 h).1 in
      let b = (and-eq-true_iff (eqb f (get_or xs j 0)) (eqb s (get_or xs (8 + j) 0))).0 (at (is_byte xs) 8 j l all) in
      (eqb-true f (get_or xs j 0) b.0, eqb-true s (get_or xs (8 + j) 0) b.1)

  pub first_byte : big_endian 0 (take 8 xs) / 256 ^ (7 - j) % 256 ≡ get_or xs j 0
  first_byte = both.0

  pub second_byte : big_endian 0 (drop 8 xs) / 256 ^ (7 - j) % 256 ≡ get_or xs (8 + j) 0
  second_byte = both.1

-- ---- comparing 16 bytes with others by the halves

module _ (s : List ℕ) (g : (i : ℕ) → get_or s i 0 < 256) (a : ℕ) (room : a + 16 ≤ length s) (xs : List ℕ) (six : Sixteen xs) where
  abbrev window : List ℕ
  window = take 16 (drop a s)

  first_is : take 8 window ≡ take 8 (drop a s)
  first_is = take-take 8 16 (drop a s) (omega arith)

  second_is : drop 8 window ≡ take 8 (drop (a + 8) s)
  second_is =
      rw (halved s a 8)
      (drop_at (take 8 (drop a s)) (take 8 (drop (a + 8) s)) 8 (length-take-le 8 (drop a s) (omega (arith, length-drop a s))))

  window_bytes : AllBytes window
  window_bytes = bytes_part s g 16 a room

  halves_same : big_endian 0 (take 8 (drop a s)) ≡ big_endian 0 (take 8 xs) → big_endian 0 (take 8 (drop (a + 8) s)) ≡ big_endian 0 (drop 8 xs)
      → same_bytes window xs ≡ true
  halves_same p q =
      let n : length window ≡ 16 = length-take-le 16 (drop a s) (omega (arith, length-drop a s)) in
      let m = six.size in
      let x = length-take-le 8 window (omega arith) ∙ sym (length-take-le 8 xs (omega arith)) in
      let y : length (drop 8 window) ≡ length (drop 8 xs) = omega (arith, length-drop 8 window, length-drop 8 xs) in
      let front =
      (number_same 0 0 (take 8 window) (take 8 xs) x (bytes_take 8 window window_bytes) (bytes_take 8 xs six.bytes)
      (ap (big_endian 0) first_is ∙ p)).1 in
      let back =
      (number_same 0 0 (drop 8 window) (drop 8 xs) y (bytes_drop 8 window window_bytes) (bytes_drop 8 xs six.bytes)
      (ap (big_endian 0) second_is ∙ q)).1 in
      let e : window ≡ xs = sym (take-append-drop 8 window) ∙ rw (front, back) (take-append-drop 8 xs) in
      rw e (same_refl xs)

  halves_of : same_bytes window xs ≡ true
      → (big_endian 0 (take 8 (drop a s)) ≡ big_endian 0 (take 8 xs)) × (big_endian 0 (take 8 (drop (a + 8) s)) ≡ big_endian 0 (drop 8 xs))
  halves_of t =
      let e = same_true window xs t in
      (rw first_is at (ap (λ (l : List ℕ). big_endian 0 (take 8 l)) e), rw second_is at (ap (λ (l : List ℕ). big_endian 0 (drop 8 l)) e))

  pub first_differs : (big_endian 0 (take 8 (drop a s)) ≡ big_endian 0 (take 8 xs) → ⊥) → same_bytes window xs ≡ false
  first_differs d = by_bool (same_bytes window xs) (λ t. absurd (d (halves_of t).0)) (λ t. t)

  second_differs : (big_endian 0 (take 8 (drop (a + 8) s)) ≡ big_endian 0 (drop 8 xs) → ⊥) → same_bytes window xs ≡ false
  second_differs d = by_bool (same_bytes window xs) (λ t. absurd (d (halves_of t).1)) (λ t. t)

  -- where the first halves are the same, the second ones decide
  pub second_tells : big_endian 0 (take 8 (drop a s)) ≡ big_endian 0 (take 8 xs) → (x y : ℕ) → x ≡ big_endian 0 (take 8 (drop (a + 8) s))
      → y ≡ big_endian 0 (drop 8 xs) → eqb x y ≡ same_bytes window xs
  second_tells p x y e f =
      by_bool (eqb x y)
      (λ t. t ∙ sym (halves_same p (sym e ∙ eqb-true x y t ∙ f)))
      (λ t. t ∙ sym (second_differs (λ q. eqb-false x y t (e ∙ q ∙ sym f))))
