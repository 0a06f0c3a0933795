-- What holds of the rows of finishes, in whatever order rows with equal times stand, as statements; proofs/Theorems.antt proves each.
use Rattle.std.specs.Prelude.{◌≤◌, ◌⊎◌, Bool, ◌&&◌, List, length, ℤ}
use Rattle.std.specs.Int.Signed.{le_z}
use Rattle.state.specs.State.{same_int}
use Rattle.results.specs.Results.{Finish, bests_below}
use Rattle.results.specs.Laws.{Among, IsCounted}
use Rattle.ranking.specs.Ranking.{how_many, InOrder}

-- rows of finishes
abbrev pub RowsOf : List Finish → List Finish → Type 0
RowsOf fs rows = InOrder (bests_below 128 fs) rows

abbrev pub of_client : ℤ → Finish → Bool
of_client c g = same_int g.client c

-- a row of f's client, with a time no higher
abbrev pub no_higher : Finish → Finish → Bool
no_higher f g = of_client f.client g && le_z g.time f.time

-- every finish is in the count, or its client has a row with a time no higher
abbrev pub EveryFinish : Type 0
EveryFinish =
    (fs rows : List Finish) → RowsOf fs rows → (f : Finish) (at : Among f fs) → IsCounted f fs at ⊎ (1 ≤ how_many (no_higher f) rows)

-- each row is a finish: whatever is asked, no more rows than finishes are so
abbrev pub EachRowIsFinish : Type 0
EachRowIsFinish = (fs rows : List Finish) → RowsOf fs rows → (test : Finish → Bool) → how_many test rows ≤ how_many test fs

-- a client has at most one row, so there are at most 128
abbrev pub AtMostOneRow : Type 0
AtMostOneRow = (fs rows : List Finish) → RowsOf fs rows → (c : ℤ) → how_many (of_client c) rows ≤ 1

abbrev pub AtMost128 : Type 0
AtMost128 = (fs rows : List Finish) → RowsOf fs rows → length rows ≤ 128
