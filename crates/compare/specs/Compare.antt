-- Two lists of numbers are the same.
use Rattle.std.specs.Prelude.{Bool, true, false, ◌&&◌, List, [], ◌∷◌, ℤ}
use Rattle.state.specs.State.{same_int}

unfoldable pub same_all : List ℤ → List ℤ → Bool
same_all [] [] = true
same_all [] (b ∷ l) = false
same_all (a ∷ k) [] = false
same_all (a ∷ k) (b ∷ l) = same_int a b && same_all k l
