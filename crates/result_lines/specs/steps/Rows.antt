-- Rows that three arrays hold.
use Rattle.std.specs.Prelude.{ℕ, zero, suc, List, [], ◌∷◌, get_or, drop, ℤ, pos}
use Rattle.results.specs.Results.{Finish, finish}

-- the row at the front of three arrays
abbrev pub first_row : List ℤ → List ℤ → List ℤ → Finish
first_row clients times ticks = finish (get_or clients 0 (pos 0)) (get_or times 0 (pos 0)) (get_or ticks 0 (pos 0))

-- the first rows, so many
unfoldable pub rows_in : ℕ → List ℤ → List ℤ → List ℤ → List Finish
rows_in zero clients times ticks = []
rows_in (suc n) clients times ticks = first_row clients times ticks ∷ rows_in n (drop 1 clients) (drop 1 times) (drop 1 ticks)
