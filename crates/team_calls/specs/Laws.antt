-- What holds of reading calls with teams, as statements; proofs/Theorems.antt proves each.
use Rattle.std.specs.Prelude.{ℕ, ◌≡◌, List, ℤ}
use Rattle.kinds.specs.declared.Version.{Version}
use Rattle.state.specs.Laws.{Sound}
use Rattle.teams.specs.Teams.{team_reader, empty_team_reader}
use Rattle.teams.specs.Laws.{SoundTeams}
use Rattle.teams.specs.declared.TeamReader.{TeamReader}
use Rattle.calls.specs.Calls.{Call, Seen, after, events}
use Rattle.calls.specs.Along.{along}
use Rattle.calls.specs.Laws.{last_first}
use Rattle.team_calls.specs.Lists.{TeamSeen, team_after, team_events, teams_over, teams_so_far, formers_so_far}

-- a reader that is not refused 17, with the lengths that its arrays have
pub record SoundTeamReader (r : TeamReader) : Type 0 where
  pub reader : Sound r.reader
  pub teams : SoundTeams r.teams

abbrev pub EmptyTeamsSound : Type 0
EmptyTeamsSound = (v : Version) → SoundTeamReader (empty_team_reader v)

-- by any list of calls from an empty reader
abbrev pub ReachedTeamsSound : Type 0
ReachedTeamsSound = (v : Version) (list : List Call) → SoundTeamReader (team_after (empty_team_reader v) list)

-- where the teams are sound, calls with teams are the calls without them; the teams are those after their events, and beside each event
-- stands the team that its client had before it
pub record Above (r : TeamReader) (list : List Call) : Type 0 where
  pub left : team_after r list ≡ team_reader (after r.reader list) (teams_so_far r.teams (events r.reader list))
  pub same : team_events r list ≡ formers_so_far r.teams (events r.reader list)

abbrev pub TeamsAbove : Type 0
TeamsAbove = (r : TeamReader) (list : List Call) → SoundTeams r.teams → Above r list

-- a run is that of a list of calls, with its teams too
pub record IsTeamList (r : TeamReader) (left : TeamReader) (seen : List TeamSeen) : Type 0 where
  pub list : List Call
  pub reaches : team_after r list ≡ left
  pub same : team_events r list ≡ seen

abbrev pub RunsAreTeamLists : Type 0
RunsAreTeamLists =
    (see : List ℕ → Call) (k : ℕ) (r : TeamReader) (bytes : List ℕ) → SoundTeams r.teams
    → let run = along see k r.reader bytes in
    IsTeamList r (team_reader run.reader (teams_over r.teams run.seen)) (formers_so_far r.teams (last_first run.seen))

-- the first first and the last first tell the same
abbrev pub SoFarIsOver : Type 0
SoFarIsOver = (t : List ℤ) (xs : List Seen) → teams_so_far t (last_first xs) ≡ teams_over t xs
