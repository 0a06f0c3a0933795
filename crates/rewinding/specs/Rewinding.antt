-- Rewinding to a tick: a copy of the board, just after the newest TickStart of that tick on the reel. docs/FORMAT.md, "Rewinding".
use Rattle.std.specs.Prelude.{ℕ, suc, Bool, true, false, cond, ◌&&◌, List, [], ◌∷◌, take, ℤ, None, Result, Ok, Err}
use Rattle.refusal.specs.declared.Refusal.{Refusal}
use Rattle.refusal.specs.declared.Refusal.TheVariants.{BadState, Closed, NotLast, TickGone}
use Rattle.state.specs.State.{same_int, no_entries}
use Rattle.state.specs.declared.Standing.{Standing}
use Rattle.state.specs.declared.Standing.TheVariants as standings
use Rattle.teams.specs.Teams.{no_teams, good_team_reader}
use Rattle.teams.specs.declared.TeamReader.{TeamReader}
use Rattle.back.specs.Board.{board}
use Rattle.back.specs.TeamBoard.{team_board, team_board_of, TeamBack, was, refused, take_off_team}
use Rattle.back.specs.Undo.{undone, former_in}
use Rattle.back.specs.declared.Undo.{Undo}
use Rattle.back.specs.declared.Undo.TheVariants.{Start, End, New, Change, Old, Input, Team, Nothing}
use Rattle.back.specs.declared.TeamBoard.{TeamBoard}
use Rattle.taking.specs.Taking.{TeamTaken, team_taken_from}
use Rattle.reel.specs.Reel.{Row, good_reel, rows_of}
use Rattle.reel.specs.declared.Reel.{Reel}
use Rattle.rewinding.specs.declared.RewindAnswer.TheVariants as answers
use Rattle.rewinding.specs.declared.Rewound.{Rewound}

-- ---- the newest TickStart of a tick

abbrev pub is_start : ℤ → Undo → Bool
is_start t (Start u) = same_int u t
is_start t (End u) = false
is_start t (New c x y) = false
is_start t (Change c x y old-x old-y) = false
is_start t (Old c x y) = false
is_start t (Input c had) = false
is_start t (Team c n m) = false
is_start t Nothing = false

-- the number of rows that are newer than it, or that it is not there
pub data Newer : Type 0 where
  newer : ℕ → Newer
  gone : Newer

abbrev pub one_newer : Newer → Newer
one_newer (newer n) = newer (suc n)
one_newer gone = gone

-- rows, the newest first
unfoldable pub newer_than : ℤ → List Row → Newer
newer_than t [] = gone
newer_than t (x ∷ xs) = cond (is_start t x.undo) (newer 0) (one_newer (newer_than t xs))

abbrev pub closed_by_refusal : Standing → Bool
closed_by_refusal standings.Open = false
closed_by_refusal standings.Finished = false
closed_by_refusal standings.Refused = true

abbrev pub sought_of : Newer → Result ℕ Refusal
sought_of (newer n) = Ok n
sought_of gone = Err TickGone

-- 17 (reader, reel), 18, 20
unfoldable pub sought_in : TeamReader → Reel → ℤ → Result ℕ Refusal
sought_in r l t =
    cond (good_team_reader r && good_reel l)
    (cond (closed_by_refusal r.reader.scalars.standing) (Err Closed) (sought_of (newer_than t (rows_of l))))
    (Err BadState)

-- ---- stepping over rows

abbrev pub back_row : Row → TeamBoard → TeamBack
back_row x b = take_off_team (undone x.undo) x.ten x.former (former_in x.undo) b

-- while they fit; the board is left as it stands at the first that doesn't
unfoldable pub step_over : List Row → TeamBoard → TeamTaken
step_over [] b = record { fits = true; board = b }
step_over (x ∷ xs) b = let t = team_taken_from b (back_row x b) in cond t.fits (step_over xs t.board) t

-- ---- rewinding

-- the copy, if every row fitted, else 19
abbrev pub copy_of : TeamTaken → TeamBack
copy_of t = cond t.fits (was t.board) (refused NotLast)

-- of the rows that are newer than TickStart; TickStart itself is not stepped over
abbrev pub step_back_to : List Row → TeamBoard → Result ℕ Refusal → TeamBack
step_back_to rows b (Ok n) = copy_of (step_over (take n rows) b)
step_back_to rows b (Err r) = refused r

-- 17 (reader, reel), 18, 20, 19
unfoldable pub rewind_to : TeamReader → Reel → ℤ → TeamBack
rewind_to r l t = step_back_to (rows_of l) (team_board_of r) (sought_in r l t)

-- what the call hands back: in a refusal there is no copy, and the board is blank
abbrev pub blank_board : TeamBoard
blank_board = team_board (board None no_entries) no_teams

abbrev pub rewound_of : TeamBack → Rewound
rewound_of (was b) = record { answer = answers.Ended; board = b }
rewound_of (refused r) = record { answer = answers.Refused r; board = blank_board }
