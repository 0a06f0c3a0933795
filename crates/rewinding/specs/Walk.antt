-- Rows stepped over one after the other, with the place that is left: what the code does, of a rewind in one call and of one under way.
use Rattle.std.specs.Prelude.{ℕ, zero, suc, true, cond, List, ltb, ℤ}
use Rattle.state.specs.declared.Entries.{Entries}
use Rattle.back.specs.declared.TeamBoard.{TeamBoard}
use Rattle.taking.specs.Taking.{TeamTaken, team_taken_from, team_taken_is}
use Rattle.reel.specs.Reel.{place_before, row_at}
use Rattle.reel.specs.declared.Reel.{Reel}
use Rattle.rewinding.specs.Rewinding.{back_row}
use Rattle.rewinding.specs.declared.Over.{Over}

-- what is left of the board, how many rows were stepped over, and the place before which the others stand
pub record Walked : Type 0 where
  pub taken : TeamTaken
  pub over : ℕ
  pub place : ℕ

-- k rows are stepped over; the n before a place are next
unfoldable pub walk : Reel → ℕ → ℕ → ℕ → TeamBoard → Walked
walk l zero p k b = record { taken = record { fits = true; board = b }; over = k; place = p }
walk l (suc n) p k b =
    let t = team_taken_from b (back_row (row_at l (place_before p)) b) in
    cond t.fits (walk l n (place_before p) (suc k) t.board) (record { taken = t; over = k; place = p })

-- before a place that is none of the 512 there are no rows
abbrev pub rows_from : ℕ → ℕ → ℕ
rows_from p n = cond (ltb p 512) n 0

-- what the code answers, of the entries and the teams that it leaves
abbrev pub walked_is : Over → Entries → List ℤ → Walked
walked_is r e t = record { taken = team_taken_is r.off e t; over = r.over; place = r.place }
