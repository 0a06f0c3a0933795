-- What the functions inside ask for and hand over.
use Rattle.std.specs.Prelude.{ℕ, ◌*◌, ◌≤◌, List, length, ℤ}
use Rattle.state.specs.State.{reader_with}
use Rattle.state.specs.declared.Entries.{Entries}
use Rattle.state.specs.declared.Scalars.{Scalars}
use Rattle.teams.specs.Teams.{team_reader}
use Rattle.teams.specs.declared.TeamReader.{TeamReader}
use Rattle.many.specs.declared.Stop.{Stop}
use Rattle.many.specs.declared.RowsRead.{RowsRead}
use Rattle.many.specs.declared.ManyAnswer.{ManyAnswer}

-- there is room for n events
pub record Room (n : ℕ) (rs ts : List ℤ) : Type 0 where
  pub rows : 8 * n ≤ length rs
  pub tens : 20 * n ≤ length ts

abbrev pub rows_read : Stop → ℕ → ℕ → Scalars → RowsRead
rows_read stop count used s = record { stop = stop; count = count; used = used; scalars = s }

abbrev pub answer_of : RowsRead → Entries → List ℤ → ManyAnswer
answer_of r e t = record { stop = r.stop; count = r.count; used = r.used; reader = team_reader (reader_with r.scalars e) t }

-- no call was made
abbrev pub not_read : Stop → TeamReader → ManyAnswer
not_read stop r = record { stop = stop; count = 0; used = 0; reader = r }
