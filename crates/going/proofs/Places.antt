-- The row behind n others: its place, and whether it is TickStart. Assumes nothing.
use Prim.Native.Nat.{ℕ, zero, suc, ◌+◌, ◌-◌, ◌≤◌, ◌<◌}
use mathlib.Core.Path.{◌≡◌, refl}
use mathlib.Core.Bool.{false, cond}
use native.Mathlib.Omega.{arith}
use native.Mathlib.Numerals.{add-one}
use lib.Dec.{ltb, eqb-suc-zero}
use lib.IntN.{ℤ}
use borrow.Author.Tests.{ltb-true, ltb-false}
use Rattle.num.proofs.Cases.{by_bool}
use Rattle.state.specs.State.{ten_of}
use Rattle.reel.specs.Reel.{undo_in, place_before, row_at, rows_before, rows_of}
use Rattle.reel.specs.declared.Reel.{Reel}
use Rattle.rewinding.specs.Rewinding.{is_start}
use Rattle.going.specs.Going.{start_behind}
use Rattle.going.specs.steps.Places.{places_before}

-- ---- its place

-- the way back goes past place 0, or not
below : (n p : ℕ) → n ≤ p → places_before n p ≡ p - n
unfolding places_before
below zero p h = omega arith
below (suc n) zero h = absurd (omega arith)
below (suc n) (suc p) h = rw (below n p (omega arith)) (omega arith)

round : (n p : ℕ) → p < n → n ≤ p + 512 → places_before n p ≡ p + 512 - n
unfolding places_before
round zero p h k = absurd (omega arith)
round (suc n) zero h k = rw (below n 511 (omega arith)) (omega arith)
round (suc n) (suc p) h k = rw (round n p (omega arith) (omega arith)) (omega arith)

pub places_before_law : (n p : ℕ) → p < 512 → n < 512 → places_before (n + 1) p ≡ cond (ltb n p) (p - n - 1) (p + 511 - n)
places_before_law n p hp hn =
    by_bool (ltb n p)
    (λ t. rw (t, below (n + 1) p (omega (arith, ltb-true n p t))) (omega arith))
    (λ f. rw (f, round (n + 1) p (omega (arith, ltb-false n p f)) (omega arith)) (omega arith))

-- ---- whether it is TickStart

module _ (t : ℤ) (l : Reel) where
  behind : (c n p : ℕ) → n < c → start_behind t n (rows_before l c p) ≡ is_start t (undo_in (ten_of l.rows (places_before (suc n) p)))
  unfolding start_behind rows_before row_at places_before
  behind zero n p h = absurd (omega arith)
  behind (suc c) zero p h = refl
  behind (suc c) (suc n) p h = let e : suc n - 1 ≡ n = omega arith in rw (eqb-suc-zero n, e) (behind c n (place_before p) (omega arith))

  beyond : (c n p : ℕ) → c ≤ n → start_behind t n (rows_before l c p) ≡ false
  unfolding start_behind rows_before
  beyond zero n p h = refl
  beyond (suc c) zero p h = absurd (omega arith)
  beyond (suc c) (suc n) p h = let e : suc n - 1 ≡ n = omega arith in rw (eqb-suc-zero n, e) (beyond c n (place_before p) (omega arith))

  pub start_behind_law : (n : ℕ) → n < l.counts.count
      → start_behind t n (rows_of l) ≡ is_start t (undo_in (ten_of l.rows (places_before (n + 1) l.counts.next)))
  unfolding rows_of
  start_behind_law n h = rw (add-one n) (behind l.counts.count n l.counts.next h)

  pub start_beyond : (n : ℕ) → l.counts.count ≤ n → start_behind t n (rows_of l) ≡ false
  unfolding rows_of
  start_beyond n h = beyond l.counts.count n l.counts.next h
