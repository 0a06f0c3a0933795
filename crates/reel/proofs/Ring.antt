-- Rows before a place: how many, the newest of them, and after a row more. Assumes nothing.
use Prim.Native.Nat.{ℕ, zero, suc, ◌+◌, ◌≤◌, ◌<◌, min}
use mathlib.Core.Path.{◌≡◌, refl, sym, ap, ◌∙◌}
use mathlib.Core.List.{◌∷◌}
use native.Mathlib.Omega.{arith}
use native.Mathlib.Nat.{zero-min, min-zero, suc-min-suc, min-eq_left}
use lib.ListN.{length, take}
use lib.Dec.{ltb}
use borrow.Author.Tests.{ltb-false}
use Rattle.num.proofs.Cases.{by_bool}
use Rattle.reel.specs.Reel.{Row, place_before, place_after, row_at, rows_before, rows_of}
use Rattle.reel.specs.declared.Reel.{Reel}

-- ---- how many, and the newest

module _ (l : Reel) where
  before_length : (n p : ℕ) → length (rows_before l n p) ≡ n
  unfolding rows_before
  before_length zero p = refl
  before_length (suc n) p = ap suc (before_length n (place_before p))

  before_taken : (n c p : ℕ) → take n (rows_before l c p) ≡ rows_before l (min n c) p
  unfolding rows_before
  before_taken zero c p = rw (zero-min c)
  before_taken (suc n) zero p = rw (min-zero (suc n))
  before_taken (suc n) (suc c) p = rw (suc-min-suc n c) (ap (λ rs. row_at l (place_before p) ∷ rs) (before_taken n c (place_before p)))

  pub rows_length : length (rows_of l) ≡ l.counts.count
  unfolding rows_of
  rows_length = before_length l.counts.count l.counts.next

  pub rows_taken : (n : ℕ) → n ≤ l.counts.count → take n (rows_of l) ≡ rows_before l n l.counts.next
  unfolding rows_of
  rows_taken n h = before_taken n l.counts.count l.counts.next ∙ ap (λ (m : ℕ). rows_before l m l.counts.next) (min-eq_left h)

-- ---- places

pub before_after : (p : ℕ) → p < 512 → place_before (place_after p) ≡ p
before_after p h =
    by_bool (ltb p 511)
    (λ t. let e : p + 1 ≡ suc p = omega arith in rw (t, e))
    (λ f. let e : p ≡ 511 = omega (arith, ltb-false p 511 f) in rw e)

-- ---- two reels with the same rows but for one place

module _ (l k : Reel) (q : ℕ) (same : (i : ℕ) → (i ≡ q → ⊥) → row_at k i ≡ row_at l i) where
  -- the walk ends before that place
  above : (n p : ℕ) → n + q < p → rows_before k n p ≡ rows_before l n p
  unfolding rows_before
  above zero p h = refl
  above (suc n) zero h = absurd (omega arith)
  above (suc n) (suc p) h = rw (same p (λ e. omega arith), above n p (omega arith))

  -- it goes on from the last place
  round : (n p : ℕ) → p ≤ q → n + q < p + 512 → rows_before k n p ≡ rows_before l n p
  unfolding rows_before
  round zero p a h = refl
  round (suc n) zero a h = rw (same 511 (λ e. omega arith), above n 511 (omega arith))
  round (suc n) (suc p) a h = rw (same p (λ e. omega arith), round n p (omega arith) (omega arith))

  -- and the next row at that place
  pub one_more : (c : ℕ) (r : Row) → q < 512 → row_at k q ≡ r → rows_before k (min (c + 1) 512) (place_after q) ≡ take 512 (r ∷ rows_before l c q)
  unfolding rows_before
  one_more c r h here =
      let e : min (c + 1) 512 ≡ suc (min 511 c) = omega arith in
      rw (e, before_after q h, here)
      (ap (λ rs. r ∷ rs) (round (min 511 c) q (omega arith) (omega arith) ∙ sym (before_taken l 511 c q)))
