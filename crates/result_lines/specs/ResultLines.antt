-- The lines of a results list. docs/FORMAT.md, "The ladder program".
use Rattle.std.specs.Prelude.{ℕ, ◌≡◌, List, [], ◌∷◌, ◌++◌, Result}
use Rattle.refusal.specs.declared.Refusal.{Refusal}
use Rattle.lines.specs.Lines.{decimal_digits, text, newline, plain_line, last_line, text_answer, text_target}
use Rattle.lines.specs.declared.Ending.{Ending}
use Rattle.results.specs.Results.{Finish, rows_below}
use Rattle.results.specs.declared.Results.{Results}
use Rattle.ranking.specs.Ranking.{InOrder}

abbrev pub row_word : List ℕ
row_word = text "row"

abbrev pub others_word : List ℕ
others_word = text "others"

-- `row c time tick`
abbrev pub row_line : Finish → List ℕ
row_line f = plain_line row_word (f.client ∷ f.time ∷ f.tick ∷ [])

unfoldable pub row_lines : List Finish → List ℕ
row_lines [] = []
row_lines (f ∷ fs) = row_line f ++ row_lines fs

-- `others n`, a number of at most twenty digits
abbrev pub others_line : ℕ → List ℕ
others_line n = others_word ++ (0x20 ∷ decimal_digits 20 n newline)

-- the rows in order, the number of others' finishes, the last line
abbrev pub list_text : List Finish → ℕ → Ending → List ℕ
list_text rows others ending = row_lines rows ++ (others_line others ++ last_line ending)

-- the longest text: 128 rows of 40 bytes, 28 bytes, and room for the longest last line
abbrev pub longest_list : ℕ
longest_list = 5286

-- the text of a list is in its place, the rows in the program's order of equal times; refused 9 where the longest text wouldn't fit
pub record WritesList (l : Results) (ending : Ending) (out₀ : List ℕ) (at : ℕ) (r : Result ℕ Refusal) (out₁ : List ℕ) : Type 0 where
  pub ordered : List Finish
  pub order : InOrder (rows_below 128 l) ordered
  pub answer : r ≡ text_answer longest_list out₀ at (list_text ordered l.others ending)
  pub target : out₁ ≡ text_target longest_list out₀ at (list_text ordered l.others ending)
