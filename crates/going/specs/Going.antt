-- A rewind under way: it goes so many events a call, and between calls its copy of the board can be looked at. docs/FORMAT.md, "A rewind
-- under way".
use Rattle.std.specs.Prelude.{ℕ, zero, suc, ◌-◌, Bool, true, false, cond, ◌&&◌, List, [], ◌∷◌, eqb, ℤ, pos, Result, Ok, Err}
use Rattle.refusal.specs.declared.Refusal.{Refusal}
use Rattle.refusal.specs.declared.Refusal.TheVariants.{BadState, NotLast, TickGone}
use Rattle.teams.specs.declared.TeamReader.{TeamReader}
use Rattle.back.specs.TeamBoard.{team_board_of, good_team_board}
use Rattle.back.specs.declared.TeamBoard.{TeamBoard}
use Rattle.taking.specs.Taking.{team_taken_from}
use Rattle.reel.specs.Reel.{Row, place_before, counts_of, reel_of, good_reel, row_at, rows_of, empty_reel}
use Rattle.reel.specs.declared.Reel.{Reel}
use Rattle.rewinding.specs.Rewinding.{is_start, back_row, sought_in, blank_board}
use Rattle.going.specs.declared.Progress.{Progress}
use Rattle.going.specs.declared.Rewind.{Rewind}
use Rattle.going.specs.declared.StartAnswer.TheVariants as starts
use Rattle.going.specs.declared.Start.{Start}
use Rattle.going.specs.declared.GoAnswer.TheVariants as answers
use Rattle.going.specs.declared.Go.{Go}

abbrev pub progress_of : ℤ → ℕ → Bool → Progress
progress_of t newer misfit = record { tick = t; newer = newer; misfit = misfit }

-- its copy of the board, its own reel; its tick, how many rows of its reel are newer than its TickStart, and whether it met a misfit
abbrev pub rewind_of : TeamBoard → Reel → Progress → Rewind
rewind_of b l k = record { board = b; reel = l; progress = k }

-- ---- starting: nothing is stepped over yet

-- in a refusal there is no rewind, and what is handed back is blank
abbrev pub no_rewind : Rewind
no_rewind = rewind_of blank_board empty_reel (progress_of (pos 0) 0 false)

abbrev pub start_of : TeamBoard → Reel → ℤ → Result ℕ Refusal → Start
start_of b l t (Ok n) = record { answer = starts.Started; rewind = rewind_of b l (progress_of t n false) }
start_of b l t (Err r) = record { answer = starts.Refused r; rewind = no_rewind }

-- 17 (reader, reel), 18, 20
unfoldable pub start_rewind : TeamReader → Reel → ℤ → Start
start_rewind r l t = start_of (team_board_of r) l t (sought_in r l t)

-- ---- going on

-- the row behind n others is TickStart of a tick
unfoldable pub start_behind : ℤ → ℕ → List Row → Bool
start_behind t n [] = false
start_behind t n (x ∷ xs) = cond (eqb n 0) (is_start t x.undo) (start_behind t (n - 1) xs)

-- its TickStart stands in its place on its own reel
abbrev pub has_start : Rewind → Bool
has_start w = start_behind w.progress.tick w.progress.newer (rows_of w.reel)

-- ended exactly if the copy stands just after its TickStart
abbrev pub standing : Rewind → Go
standing w = record { answer = cond (eqb w.progress.newer 0) answers.Ended answers.Going; rewind = w }

abbrev pub refused_go : Refusal → Rewind → Go
refused_go r w = record { answer = answers.Refused r; rewind = w }

-- the newest row of a reel, and the reel without it
abbrev pub newest_of : Reel → Row
newest_of l = row_at l (place_before l.counts.next)

abbrev pub without_newest : Reel → Reel
without_newest l = reel_of (counts_of (place_before l.counts.next) (l.counts.count - 1)) l.rows l.inputs l.formers

-- after the newest event was stepped over, which left a board
abbrev pub passed : Rewind → TeamBoard → Rewind
passed w b = rewind_of b (without_newest w.reel) (progress_of w.progress.tick (w.progress.newer - 1) w.progress.misfit)

-- the copy stays as it is
abbrev pub misfitting : Rewind → Rewind
misfitting w = rewind_of w.board w.reel (progress_of w.progress.tick w.progress.newer true)

-- over at most n events, the newest first; 19 at the first that doesn't fit
unfoldable pub go_over : ℕ → Rewind → Go
go_over zero w = standing w
go_over (suc n) w =
    let t = team_taken_from w.board (back_row (newest_of w.reel) w.board) in
    cond (eqb w.progress.newer 0) (standing w)
    (cond t.fits (go_over n (passed w t.board)) (refused_go NotLast (misfitting w)))

-- 17 (copy, reel), 20, then 19 for ever after a misfit
unfoldable pub go_on : Rewind → ℕ → Go
go_on w n =
    cond (good_team_board w.board && good_reel w.reel)
    (cond (has_start w) (cond w.progress.misfit (refused_go NotLast w) (go_over n w)) (refused_go TickGone w))
    (refused_go BadState w)
