-- The search for a TickStart: the row at a place tested by its numbers, one row after the other. Assumes nothing.
use Rattle.std.specs.Prelude.{Some, None}
use Prim.Native.Nat.{ℕ, suc, ◌+◌, ◌-◌, ◌*◌, ◌≤◌, ◌<◌}
use mathlib.Core.Path.{◌≡◌, refl, ap}
use mathlib.Core.Bool.{Bool, true, false, cond, ◌&&◌}
use mathlib.Core.List.{List, [], ◌∷◌}
use native.Mathlib.Omega.{arith}
use lib.ListN.{length, get_or}
use lib.IntN.{ℤ, pos}
use Rattle.state.specs.State.{same_int, ten_of}
use Rattle.back.specs.declared.Undo.TheVariants.{Start, End, New, Change, Old, Input, Team, Nothing}
use Rattle.reel.specs.Reel.{Row, no_event, is_number, undo_in, place_before, row_at, rows_before, rows_of}
use Rattle.reel.specs.declared.Reel.{Reel}
use Rattle.rewinding.specs.Rewinding.{is_start, Newer, newer, gone, one_newer, newer_than}

-- ---- what ten numbers tell is TickStart of t: the first is 1, the second t

module _ (t a b c d e : ℤ) where
  -- by the tests of the kind, in their order
  told : (k1 k2 k3 k4 k5 k6 k7 k8 one none had not : Bool)
      → (k1 && same_int a t)
      ≡ is_start t
      (cond k1 (Start a)
      (cond k2 (End a)
      (cond k3 (New a b c)
      (cond k4 (Change a b c d e)
      (cond k5 (Old a b c)
      (cond k6 (cond one (Input a true) (cond none (Input a false) no_event))
      (cond k7 Nothing
      (cond k8 (cond had (Team a b (Some d)) (cond not (Team a b None) no_event)) no_event))))))))
  told true k2 k3 k4 k5 k6 k7 k8 one none had not = refl
  told false true k3 k4 k5 k6 k7 k8 one none had not = refl
  told false false true k4 k5 k6 k7 k8 one none had not = refl
  told false false false true k5 k6 k7 k8 one none had not = refl
  told false false false false true k6 k7 k8 one none had not = refl
  told false false false false false true k7 k8 true none had not = refl
  told false false false false false true k7 k8 false true had not = refl
  told false false false false false true k7 k8 false false had not = refl
  told false false false false false false true k8 one none had not = refl
  told false false false false false false false true one none true not = refl
  told false false false false false false false true one none false true = refl
  told false false false false false false false true one none false false = refl
  told false false false false false false false false one none had not = refl

module _ (t : ℤ) where
  numbers : (ns : List ℤ) → (same_int (get_or ns 0 (pos 0)) (pos 1) && same_int (get_or ns 1 (pos 0)) t) ≡ is_start t (undo_in ns)
  unfolding undo_in
  numbers ns =
      let n : ℕ → ℤ = λ i. get_or ns i (pos 0) in
      let is : ℕ → Bool = λ k. is_number k (n 0) in
      told t (n 1) (n 2) (n 3) (n 4) (n 5) (is 1) (is 2) (is 3) (is 4) (is 5) (is 6) (is 7) (is 8)
      (is_number 1 (n 2)) (is_number 0 (n 2)) (is_number 1 (n 3)) (is_number 0 (n 3))

  pub start_at : (l : List ℤ) (p z : ℕ) → z ≡ 10 * p + 0
      → (same_int (get_or l z (pos 0)) (pos 1) && same_int (get_or l (10 * p + 1) (pos 0)) t) ≡ is_start t (undo_in (ten_of l p))
  unfolding ten_of
  start_at l p z e = rw e (numbers (ten_of l p))

-- ---- one row after the other: n are passed

abbrev pub shift : ℕ → Newer → Newer
shift n (newer m) = newer (n + m)
shift n gone = gone

pub none_passed : (x : Newer) → x ≡ shift 0 x
none_passed (newer m) = ap newer (let e : m ≡ 0 + m = omega arith in e)
none_passed gone = refl

one_passed : (n : ℕ) (x : Newer) → shift n (one_newer x) ≡ shift (n + 1) x
one_passed n (newer m) = ap newer (let e : n + suc m ≡ n + 1 + m = omega arith in e)
one_passed n gone = refl

pub none_yet : (t : ℤ) (l : Reel) → newer_than t (rows_of l) ≡ shift 0 (newer_than t (rows_before l (l.counts.count - 0) l.counts.next))
unfolding rows_of
none_yet t l = let e : l.counts.count - 0 ≡ l.counts.count = omega arith in rw e (none_passed (newer_than t (rows_of l)))

-- the row before a place, of those k - n that are left
module _ (t : ℤ) (l : Reel) (n k p : ℕ) (left : n < k) where
  one_less : k - n ≡ suc (k - (n + 1))
  one_less = omega arith

  pub here : is_start t (undo_in (ten_of l.rows (place_before p))) ≡ true → newer n ≡ shift n (newer_than t (rows_before l (k - n) p))
  unfolding newer_than rows_before row_at
  here e = rw (one_less, e) (ap newer (let q : n ≡ n + 0 = omega arith in q))

  pub not_here : is_start t (undo_in (ten_of l.rows (place_before p))) ≡ false
      → shift n (newer_than t (rows_before l (k - n) p)) ≡ shift (n + 1) (newer_than t (rows_before l (k - (n + 1)) (place_before p)))
  unfolding newer_than rows_before row_at
  not_here e = rw (one_less, e) (one_passed n (newer_than t (rows_before l (k - (n + 1)) (place_before p))))

pub all_passed : (t : ℤ) (l : Reel) (n k p : ℕ) → k ≤ n → gone ≡ shift n (newer_than t (rows_before l (k - n) p))
unfolding newer_than rows_before
all_passed t l n k p h = let e : k - n ≡ 0 = omega arith in rw e

-- ---- what is found is there

abbrev Within : ℕ → Newer → Type 0
Within k (newer n) = n < k
Within k gone = Unit {0}

one_within : (k : ℕ) (x : Newer) → Within k x → Within (suc k) (one_newer x)
one_within k (newer n) h = omega arith
one_within k gone h = tt

found_within : (t : ℤ) (rs : List Row) → Within (length rs) (newer_than t rs)
unfolding newer_than
found_within t [] = tt
found_within t (r ∷ rs) = either (is_start t r.undo) (newer_than t rs) (found_within t rs)
  where
    either : (b : Bool) (x : Newer) → Within (length rs) x → Within (suc (length rs)) (cond b (newer 0) (one_newer x))
    either true x h = omega arith
    either false x h = one_within (length rs) x h

pub found_below : (t : ℤ) (rs : List Row) (n : ℕ) → newer n ≡ newer_than t rs → n < length rs
found_below t rs n e = rw (← e) at (found_within t rs)
