-- The written forms of strings and data, and which have one. docs/FORMAT.md, "Records" and "The writer".
use Rattle.std.specs.Prelude.{ℕ, Bool, true, false, cond, List, [], ◌∷◌, ◌++◌, length, eqb, leb, pos}
use Rattle.varint.specs.Written.{canonical}

-- no byte is 00
unfoldable pub no_zero : List ℕ → Bool
no_zero [] = true
no_zero (b ∷ bs) = cond (eqb b 0) false (no_zero bs)

abbrev pub string_bytes : List ℕ → List ℕ
string_bytes b = b ++ 0 ∷ []

-- at most 2147483647 bytes
abbrev pub is_data : List ℕ → Bool
is_data b = leb (length b) 2147483647

abbrev pub data_bytes : List ℕ → List ℕ
data_bytes b = canonical (pos (length b)) ++ b
