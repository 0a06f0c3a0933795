-- A number as an argument of a program: decimal digits, one at least, 2147483647 at most. docs/FORMAT.md, "The rewind program".
use Rattle.std.specs.Prelude.{ℕ, ◌+◌, ◌*◌, ◌-◌, Bool, cond, ◌&&◌, List, [], ◌∷◌, leb, pos, Option, Some, None, ℤ}

abbrev pub is_digit : ℕ → Bool
is_digit b = leb 48 b && leb b 57

-- a number and one digit more
abbrev pub with_digit : ℕ → ℕ → ℕ
with_digit n b = 10 * n + (b - 48)

unfoldable pub digits_after : ℕ → List ℕ → Option ℤ
digits_after n [] = Some (pos n)
digits_after n (b ∷ bs) = cond (is_digit b && leb (with_digit n b) 2147483647) (digits_after (with_digit n b) bs) None

unfoldable pub number_in : List ℕ → Option ℤ
number_in [] = None
number_in (b ∷ bs) = digits_after 0 (b ∷ bs)
