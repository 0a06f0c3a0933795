-- The board with teams, and stepping back over an event there: positions and inputs as without teams, and above them a client's team.
-- docs/FORMAT.md, "Stepping back".
use Rattle.std.specs.Prelude.{Bool, true, cond, ◌&&◌, List, ltb, ℤ, pos, negsuc, Option}
use Rattle.refusal.specs.declared.Refusal.{Refusal}
use Rattle.refusal.specs.declared.Refusal.TheVariants.{BadState, NotLast}
use Rattle.state.specs.Reading.{Event}
use Rattle.teams.specs.Teams.{is_in, put_team, good_teams, Joining, joins, nobody, joining_of}
use Rattle.teams.specs.declared.TeamReader.{TeamReader}
use Rattle.back.specs.Board.{board_of, good_board}
use Rattle.back.specs.Back.{Back, take_off}
use Rattle.back.specs.Back as back
use Rattle.back.specs.declared.Board.{Board}
use Rattle.back.specs.declared.TeamBoard.{TeamBoard}
use Rattle.back.specs.declared.BackAnswer.TheVariants as answers
use Rattle.back.specs.declared.SteppedBack.{SteppedBack}

abbrev pub team_board : Board → List ℤ → TeamBoard
team_board b t = record { board = b; teams = t }

-- the board of a reader
abbrev pub team_board_of : TeamReader → TeamBoard
team_board_of r = team_board (board_of r.reader) r.teams

unfoldable pub good_team_board : TeamBoard → Bool
good_team_board b = good_board b.board && good_teams b.teams

-- the board before the event, or a refusal, which changes nothing
pub data TeamBack : Type 0 where
  was : TeamBoard → TeamBack
  refused : Refusal → TeamBack

-- beside teams
abbrev pub beside : List ℤ → Back → TeamBack
beside t (back.was b) = was (team_board b t)
beside t (back.refused r) = refused r

-- a PlayerTeam of a client 0 to 127 fits an equal team; of another client it fits any
abbrev pub fits_teams : Joining → List ℤ → Bool
fits_teams (joins (pos c) n) t = cond (ltb c 128) (is_in t c n) true
fits_teams (joins (negsuc c) n) t = true
fits_teams nobody t = true

-- and the former team returns
abbrev pub teams_before : Joining → Option ℤ → List ℤ → List ℤ
teams_before (joins c n) m t = put_team t c m
teams_before nobody m t = t

-- any event, with its ten numbers and the former ten, and the former team, taken off a board
unfoldable pub take_off_team : Event → List ℤ → List ℤ → Option ℤ → TeamBoard → TeamBack
take_off_team e ten former m b =
    cond (fits_teams (joining_of e) b.teams)
    (beside (teams_before (joining_of e) m b.teams) (take_off e ten former b.board.tick b.board.entries))
    (refused NotLast)

-- 17, then 19
unfoldable pub team_step_back : TeamBoard → Event → List ℤ → List ℤ → Option ℤ → TeamBack
team_step_back b e ten former m = cond (good_team_board b) (take_off_team e ten former m b) (refused BadState)

-- what the call hands back: in a refusal, the board that was given
abbrev pub stepped_from : TeamBoard → TeamBack → SteppedBack
stepped_from b (was before) = record { answer = answers.Back; board = before }
stepped_from b (refused r) = record { answer = answers.Refused r; board = b }
