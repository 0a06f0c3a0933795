-- What reading calls with teams hand back, as the definitions say it.
use Rattle.std.specs.Prelude.{ℕ, ◌≡◌, Bool, cond, List, ℤ}
use Rattle.refusal.specs.declared.Refusal.TheVariants.{BadState}
use Rattle.item.specs.Said.{refusing}
use Rattle.state.specs.declared.Memory.{Memory}
use Rattle.state.specs.Reading.{step_of, call_on}
use Rattle.state.specs.Slim.{slim_step}
use Rattle.state.specs.steps.Inside.{done}
use Rattle.state.specs.declared.Scalars.{Scalars}
use Rattle.teams.specs.Teams.{good_teams}
use Rattle.teams.specs.declared.TeamReader.{TeamReader}
use Rattle.team_calls.specs.Reading.{TeamStep, with_teams, team_call}
use Rattle.reader.specs.Answers.{Tells}
use Rattle.team_reading.specs.declared.TeamRead.{TeamRead}
use Rattle.team_reading.specs.declared.TeamOutcome.{TeamOutcome}

-- ---- on a reader by value: what the call without teams says and leaves, the teams left, the former team

pub record TellsTeams (t : TeamStep) (r : TeamRead) : Type 0 where
  pub read : Tells t.step r.read
  pub teams : r.teams ≡ t.teams
  pub former : r.former ≡ t.former

abbrev pub TeamReadIs : TeamReader → List ℕ → Bool → TeamRead → Type 0
TeamReadIs reader w last r = TellsTeams (team_call reader w last) r

-- ---- on lent memory and teams: 17 of the teams comes first, as `team_call` has it

unfoldable pub team_call_on : Scalars → Memory → List ℤ → List ℕ → Bool → TeamStep
team_call_on s m t w last =
    cond (good_teams t) (with_teams (call_on s m w last) t) (with_teams (step_of (refusing BadState) s m) t)

-- without a command's arguments; m and teams are what is left in the lent memory and teams
pub record LentTells (t : TeamStep) (r : TeamOutcome) (m : Memory) (teams : List ℤ) : Type 0 where
  pub outcome : done r.outcome m ≡ slim_step t.step
  pub left : teams ≡ t.teams
  pub former : r.former ≡ t.former
