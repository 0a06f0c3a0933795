-- Numbers compared, one after the other. Assumes nothing.
use mathlib.Core.Path.{◌≡◌, refl}
use mathlib.Core.List.{List, [], ◌∷◌}
use native.Mathlib.Omega.{arith}
use lib.IntN.{ℤ, pos, negsuc}
use Rattle.std.specs.Cmp.Lexicographic.{pointwise}
use Rattle.std.specs.Ordering.{int_eq}
use Rattle.state.specs.State.{same_int}
use Rattle.compare.specs.Compare.{same_all}

same : (x y : ℤ) → int_eq x y ≡ same_int x y
same (pos a) (pos b) = grind arith
same (pos a) (negsuc b) = refl
same (negsuc a) (pos b) = refl
same (negsuc a) (negsuc b) = grind arith

pub all_same : (a b : List ℤ) → pointwise int_eq a b ≡ same_all a b
unfolding same_all
all_same [] [] = refl
all_same [] (y ∷ ys) = refl
all_same (x ∷ xs) [] = refl
all_same (x ∷ xs) (y ∷ ys) = rw (same x y, all_same xs ys)
