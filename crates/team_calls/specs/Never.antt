-- What reading calls with teams never undo, as statements; proofs/Theorems.antt proves each. docs/FORMAT.md, "Teams".
use Rattle.std.specs.Prelude.{ℕ, ◌≡◌, true, List}
use Rattle.kinds.specs.declared.Version.TheVariants.{V1}
use Rattle.teams.specs.Teams.{has_team}
use Rattle.teams.specs.Laws.{SoundTeams}
use Rattle.teams.specs.declared.TeamReader.{TeamReader}
use Rattle.calls.specs.Calls.{Call}
use Rattle.team_calls.specs.Lists.{team_after}

-- the version stays
abbrev pub VersionStays : Type 0
VersionStays = (r : TeamReader) (list : List Call) → (team_after r list).reader.scalars.version ≡ r.reader.scalars.version

-- who has a team goes on having one
abbrev pub TeamsNeverLost : Type 0
TeamsNeverLost =
    (r : TeamReader) (list : List Call) (c : ℕ) → SoundTeams r.teams → has_team r.teams c ≡ true → has_team (team_after r list).teams c ≡ true

-- in version 1, which has no PlayerTeam, the teams stay
abbrev pub TeamsStayIn1 : Type 0
TeamsStayIn1 = (r : TeamReader) (list : List Call) → r.reader.scalars.version ≡ V1 → (team_after r list).teams ≡ r.teams
