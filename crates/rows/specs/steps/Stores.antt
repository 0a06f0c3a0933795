-- What the functions store, and what stands in rows of an event that was seen.
use Rattle.std.specs.Prelude.{ℕ, suc, ◌*◌, ◌≡◌, cond, List, [], ◌∷◌, ltb, length, take, drop, ℤ, pos}
use Rattle.num.specs.Wrap.{wrap32}
use Rattle.state.specs.Reading.{Event}
use Rattle.teams.specs.Teams.{teams_after, former_team}
use Rattle.team_calls.specs.Lists.{TeamSeen}
use Rattle.rows.specs.Rows.{event_row, row_of, event_tens, tens_of, put, room}

-- event i is in its places, and the teams are those after it; the row has n for the bytes that its call used
pub record Filled (e : Event) (n pending : ℤ) (i : ℕ) (ten former t₀ rows₀ tens₀ t₁ rows₁ tens₁ : List ℤ) : Type 0 where
  pub teams : t₁ ≡ teams_after e t₀
  pub rows : rows₁ ≡ put rows₀ (8 * i) (event_row e (former_team e t₀) n pending)
  pub tens : tens₁ ≡ put tens₀ (20 * i) (event_tens e ten former)

-- event i, whose call used so many bytes, is in its places if there is room for it, and the teams are those after it
pub record EventPut (e : Event) (used : ℕ) (pending : ℤ) (i : ℕ) (ten former t₀ rows₀ tens₀ t₁ rows₁ tens₁ : List ℤ) : Type 0 where
  pub teams : t₁ ≡ cond (ltb i (room rows₀ tens₀)) (teams_after e t₀) t₀
  pub rows : rows₁ ≡ cond (ltb i (room rows₀ tens₀)) (put rows₀ (8 * i) (event_row e (former_team e t₀) (wrap32 (pos used)) pending)) rows₀
  pub tens : tens₁ ≡ cond (ltb i (room rows₀ tens₀)) (put tens₀ (20 * i) (event_tens e ten former)) tens₀

-- row i tells of an event that was seen, and so do its twenty numbers
pub record InRow (x : TeamSeen) (i : ℕ) (rows tens : List ℤ) : Type 0 where
  pub row : take 8 (drop (8 * i) rows) ≡ row_of x
  pub twenty : take (length (tens_of x)) (drop (20 * i) tens) ≡ tens_of x
  pub ten : length x.seen.ten ≡ 10

-- the rows from i on tell of events one behind the other
unfoldable pub AllInRows : ℕ → List TeamSeen → List ℤ → List ℤ → Type 0
AllInRows i [] rows tens = Unit {0}
AllInRows i (x ∷ xs) rows tens = InRow x i rows tens × AllInRows (suc i) xs rows tens
