-- A reading call with teams: the call without them, and above it what its event says of a team. docs/FORMAT.md, "Teams".
use Rattle.std.specs.Prelude.{ℕ, Bool, cond, List, ℤ, Option, None}
use Rattle.refusal.specs.declared.Refusal.TheVariants.{BadState}
use Rattle.item.specs.Said.{Said, gives, more, finish, refuses, refusing}
use Rattle.state.specs.Reading.{Event, Step, step_of, read_call, reader_after}
use Rattle.state.specs.steps.Parts.{memory_of}
use Rattle.teams.specs.Teams.{good_teams, teams_after, former_team, team_reader}
use Rattle.teams.specs.declared.TeamReader.{TeamReader}

-- what the call without teams says and leaves; the teams left; of a PlayerTeam event the former team
pub record TeamStep : Type 0 where
  pub step : Step
  pub teams : List ℤ
  pub former : Option ℤ

-- only an event changes a team
abbrev pub teams_said : Said Event → List ℤ → List ℤ
teams_said (gives e n) t = teams_after e t
teams_said more t = t
teams_said (finish n) t = t
teams_said (refuses k vs) t = t

abbrev pub former_said : Said Event → List ℤ → Option ℤ
former_said (gives e n) t = former_team e t
former_said more t = None
former_said (finish n) t = None
former_said (refuses k vs) t = None

-- above a call without teams
abbrev pub with_teams : Step → List ℤ → TeamStep
with_teams s t = record { step = s; teams = teams_said s.said t; former = former_said s.said t }

-- bad teams are refused 17, as a bad reader is
unfoldable pub team_call : TeamReader → List ℕ → Bool → TeamStep
team_call r w last =
    cond (good_teams r.teams) (with_teams (read_call r.reader w last) r.teams)
    (with_teams (step_of (refusing BadState) r.reader.scalars (memory_of r.reader.entries)) r.teams)

abbrev pub team_reader_after : TeamStep → TeamReader
team_reader_after s = team_reader (reader_after s.step) s.teams
