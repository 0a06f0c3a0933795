-- Demand 3, over the definitions of reading calls with teams (crate team_calls) and one step back (crate back).
use Rattle.std.specs.Prelude.{ℕ, ◌<◌, ◌≡◌, false, List, ◌++◌, map, pos}
use Rattle.kinds.specs.declared.Version.{Version}
use Rattle.teams.specs.Teams.{team_of, empty_team_reader}
use Rattle.teams.specs.declared.TeamReader.{TeamReader}
use Rattle.calls.specs.Calls.{Call}
use Rattle.team_calls.specs.Lists.{TeamSeen, team_after, team_events}
use Rattle.back.specs.TeamBoard.{team_board_of, was}
use Rattle.demand.specs.Boards.{Told}
use Rattle.demand.specs.TeamEvents.{team_meets13, team_back_over, last_team}

-- what the events so far, the last first, tell of a reader: of its players (`Told`); the team of each client 0 to 127 is that of its last
-- PlayerTeam event, or none
pub record BoardTold (r : TeamReader) (so_far : List TeamSeen) : Type 0 where
  pub players : Told r.reader.entries (map (λ (x : TeamSeen). x.seen) so_far)
  pub teams : (c : ℕ) → c < 128 → team_of r.teams (pos c) ≡ last_team (pos c) so_far

-- calls cut in two, with no refusal 13 among them: stepping back over the events of the second part never refuses and gives exactly the
-- board before it; and the events so far tell of the board after it
pub record Kept (v : Version) (before between : List Call) : Type 0 where
  pub back : team_back_over (was (team_board_of (team_after (empty_team_reader v) (before ++ between))))
      (team_events (team_after (empty_team_reader v) before) between)
      ≡ was (team_board_of (team_after (empty_team_reader v) before))
  pub told : BoardTold (team_after (empty_team_reader v) (before ++ between)) (team_events (empty_team_reader v) (before ++ between))

abbrev pub Demand3 : Type 0
Demand3 =
    (v : Version) (before between : List Call) → team_meets13 (empty_team_reader v) (before ++ between) ≡ false → Kept v before between
