-- What holds of a results list, as statements; proofs/Theorems.antt proves each.
use Rattle.std.specs.Prelude.{ℕ, ◌+◌, ◌≤◌, ◌<◌, ◌≡◌, ◌⊎◌, true, false, List, [], ◌∷◌, ◌++◌, length, ℤ, pos}
use Rattle.std.specs.Int.Signed.{lt_z, le_z}
use Rattle.state.specs.Reading.{Event}
use Rattle.results.specs.Results.{
  Finish,
  finishes_in,
  ticks_after,
  best,
  bests_below,
  is_listed,
  others_in,
  no_results,
  row_of,
  rows_below,
  keep,
}
use Rattle.results.specs.declared.Results.{Results}

-- what holds of each finish in a list
abbrev pub Each : (Finish → Type 0) → List Finish → Type 0
Each P [] = Unit {0}
Each P (f ∷ fs) = P f × Each P fs

-- a finish among others
pub record Among (f : Finish) (fs : List Finish) : Type 0 where
  pub before : List Finish
  pub after : List Finish
  pub split : fs ≡ before ++ f ∷ after

-- ---- the list that takes one finish after the other

-- its rows are the lowest times
abbrev pub RowsAreBests : Type 0
RowsAreBests = (fs : List Finish) (c : ℕ) → c < 128 → row_of (keep no_results fs) c ≡ best c fs

abbrev pub AllRowsAreBests : Type 0
AllRowsAreBests = (fs : List Finish) → rows_below 128 (keep no_results fs) ≡ bests_below 128 fs

-- its count rises by the finishes of clients that are not listed
abbrev pub CountIsOthers : Type 0
CountIsOthers = (fs : List Finish) → (keep no_results fs).others ≡ others_in fs

abbrev pub CountRises : Type 0
CountRises = (l : Results) (fs : List Finish) → (keep l fs).others ≡ l.others + others_in fs

-- finishes in two parts, and events in two parts: the second goes on where the first ended
abbrev pub KeepsOn : Type 0
KeepsOn = (l : Results) (fs gs : List Finish) → keep l (fs ++ gs) ≡ keep (keep l fs) gs

abbrev pub FinishesGoOn : Type 0
FinishesGoOn =
    (k : ℤ) (es ds : List Event) → finishes_in k (es ++ ds) ≡ finishes_in k es ++ finishes_in (ticks_after k es) ds

-- ---- the lowest time, and of equal times the earlier finish

-- g is a finish of client c; those of the client before it have a higher time, those behind it no lower one
pub record IsFirstLowest (c : ℕ) (fs : List Finish) (g : Finish) : Type 0 where
  pub at : Among g fs
  pub client : g.client ≡ pos c
  pub higher : Each (λ f. f.client ≡ pos c → lt_z g.time f.time ≡ true) at.before
  pub no_lower : Each (λ f. f.client ≡ pos c → le_z g.time f.time ≡ true) at.after

abbrev pub FirstLowest : Type 0
FirstLowest = (c : ℕ) (fs : List Finish) (g : Finish) (gs : List Finish) → best c fs ≡ g ∷ gs → (gs ≡ []) × IsFirstLowest c fs g

-- ---- every finish is in the count, or its client has a row with a time no higher

-- without it the count is one less
pub record IsCounted (f : Finish) (fs : List Finish) (at : Among f fs) : Type 0 where
  pub other : is_listed f.client ≡ false
  pub counts : others_in fs ≡ 1 + others_in (at.before ++ at.after)

pub record HasRow (f : Finish) (fs : List Finish) : Type 0 where
  pub number : ℕ
  pub client : f.client ≡ pos number
  pub listed : number < 128
  pub row : Finish
  pub has : best number fs ≡ row ∷ []
  pub no_higher_law : le_z row.time f.time ≡ true

abbrev pub EveryFinishListed : Type 0
EveryFinishListed = (f : Finish) (fs : List Finish) (at : Among f fs) → IsCounted f fs at ⊎ HasRow f fs

-- ---- one row for each client

-- a client's row, if it has one, is its own
abbrev pub RowOfClient : Type 0
RowOfClient = (l : Results) (c : ℕ) → (length (row_of l c) ≤ 1) × Each (λ g. g.client ≡ pos c) (row_of l c)

-- the clients rise from row to row, so none has two
abbrev pub ClientsRise : List Finish → Type 0
ClientsRise [] = Unit {0}
ClientsRise (f ∷ fs) = Each (λ g. lt_z f.client g.client ≡ true) fs × ClientsRise fs

abbrev pub OneRowEach : Type 0
OneRowEach = (l : Results) → ClientsRise (rows_below 128 l)

abbrev pub OneBestEach : Type 0
OneBestEach = (fs : List Finish) → ClientsRise (bests_below 128 fs)

-- a row is a finish, of a client that is listed
abbrev pub RowsAreFinishes : Type 0
RowsAreFinishes = (fs : List Finish) → Each (λ g. Among g fs × (is_listed g.client ≡ true)) (bests_below 128 fs)
