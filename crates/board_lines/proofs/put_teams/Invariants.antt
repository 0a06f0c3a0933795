-- `board_lines::put_teams` meets its contract. The loop's invariant: the lines of the clients below the next are put. Assumes nothing.
use Rattle.teams.specs.Teams.{has_team}
use Rattle.board_lines.specs.BoardLines.{team_line}
use Rattle.board_lines.proofs.Below.{team_le, Through}
use Rattle.board_lines.proofs.put_teams.Given as goal

abbrev pub invariant-loop-c : goal.invariant-loop-c
invariant-loop-c l = Through 29 (has_team l.teams) (team_line l.teams) (team_le l.teams) l.initial.out l.at l.c l.next l.out
