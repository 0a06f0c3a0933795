-- Tests and what they tell. Assumes nothing.
use Prim.Native.Nat.{ℕ, zero, suc, ◌<◌}
use mathlib.Core.Path.{◌≡◌, refl, ap}
use mathlib.Core.Bool.{Bool, true, false, ◌&&◌, ◌||◌, false≢true}
use mathlib.Core.List.{List, [], ◌∷◌}
use native.Mathlib.Omega.{arith}
use native.Mathlib.Decide.{ℕ_discrete}
use lib.Dec.{eqb}
use lib.IntN.{ℤ, pos, negsuc}
use borrow.Author.Tests.{eq-eqb, eqb-true}
use Rattle.state.specs.State.{same_int, every, good_entry}
use Rattle.back.specs.Back.{same_all}

pub and-true : (a b : Bool) → a && b ≡ true → (a ≡ true) × (b ≡ true)
and-true true b e = (refl, e)
and-true false b e = absurd (false≢true e)

pub and_both : (a b : Bool) → a ≡ true → b ≡ true → a && b ≡ true
and_both a b p q = rw (p, q)

pub or-false : (a b : Bool) → a || b ≡ false → (a ≡ false) × (b ≡ false)
or-false true b e = let z : ◌≡◌ {A = ℕ} 0 1 = cc in absurd (omega arith)
or-false false b e = (refl, e)

-- ---- the same number

pub same_refl : (z : ℤ) → same_int z z ≡ true
same_refl (pos n) = eq-eqb n n refl
same_refl (negsuc n) = eq-eqb n n refl

pub same_true : (a b : ℤ) → same_int a b ≡ true → a ≡ b
same_true (pos a) (pos b) e = ap pos (eqb-true a b e)
same_true (pos a) (negsuc b) e = absurd (false≢true e)
same_true (negsuc a) (pos b) e = absurd (false≢true e)
same_true (negsuc a) (negsuc b) e = ap negsuc (eqb-true a b e)

pub same_all_refl : (l : List ℤ) → same_all l l ≡ true
unfolding same_all
same_all_refl [] = refl
same_all_refl (a ∷ l) = and_both (same_int a a) (same_all l l) (same_refl a) (same_all_refl l)

-- ---- a test of every number below n

pub every_at : (n : ℕ) (p : ℕ → Bool) → every n p ≡ true → (i : ℕ) → i < n → p i ≡ true
unfolding every
every_at zero p e i h = absurd (omega arith)
every_at (suc n) p e i h = go (every_at n p (and-true (p n) (every n p) e).1 i) (ℕ_discrete i n)
  where
    go : (i < n → p i ≡ true) → Dec (i ≡ n) → p i ≡ true
    go f (yes q) = rw q (and-true (p n) (every n p) e).0
    go f (no q) = f (omega arith)

-- a good entry whose mark is not 1 is blank
pub blank : (m : ℕ) (t : Bool) → good_entry m t ≡ true → eqb m 1 ≡ false → (m ≡ 0) × (t ≡ true)
blank m t g e =
    let q : eqb m 0 && t ≡ true = rw e at g in
    let b = and-true (eqb m 0) t q in
    (eqb-true m 0 b.0, b.1)
