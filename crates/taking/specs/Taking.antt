-- An event taken off a board whose entries are lent.
use Rattle.std.specs.Prelude.{Bool, true, false, List, ℤ}
use Rattle.state.specs.declared.Entries.{Entries}
use Rattle.back.specs.Board.{board}
use Rattle.back.specs.Back.{Back, was, refused}
use Rattle.back.specs.TeamBoard.{TeamBack, team_board}
use Rattle.back.specs.TeamBoard as teamed
use Rattle.back.specs.declared.Board.{Board}
use Rattle.back.specs.declared.TeamBoard.{TeamBoard}
use Rattle.taking.specs.declared.Off.{Off}

-- whether the event fitted, and the board that is left: where it didn't, the one that was given
pub record Taken : Type 0 where
  pub fits : Bool
  pub board : Board

abbrev pub taken_from : Board → Back → Taken
taken_from b (was before) = record { fits = true; board = before }
taken_from b (refused r) = record { fits = false; board = b }

-- what the code answers, of the entries that it leaves
abbrev pub taken_is : Off → Entries → Taken
taken_is r e = record { fits = r.fits; board = board r.tick e }

-- the same of a board with teams
pub record TeamTaken : Type 0 where
  pub fits : Bool
  pub board : TeamBoard

abbrev pub team_taken_from : TeamBoard → TeamBack → TeamTaken
team_taken_from b (teamed.was before) = record { fits = true; board = before }
team_taken_from b (teamed.refused r) = record { fits = false; board = b }

abbrev pub team_taken_is : Off → Entries → List ℤ → TeamTaken
team_taken_is r e t = record { fits = r.fits; board = team_board (board r.tick e) t }
