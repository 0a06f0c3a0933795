-- A walk over rows, and stepping over them. Assumes nothing.
use Prim.Native.Nat.{ℕ, zero, suc}
use mathlib.Core.Path.{◌≡◌, refl}
use mathlib.Core.Bool.{Bool, true, false, cond}
use Rattle.back.specs.declared.TeamBoard.{TeamBoard}
use Rattle.taking.specs.Taking.{TeamTaken, team_taken_from}
use Rattle.reel.specs.Reel.{place_before, row_at, rows_before}
use Rattle.reel.specs.declared.Reel.{Reel}
use Rattle.rewinding.specs.Rewinding.{back_row, step_over}
use Rattle.rewinding.specs.Walk.{Walked, walk}

module _ (l : Reel) where
  picked : (x : TeamTaken) (a c : Walked) (b : TeamTaken) → a.taken ≡ b → c.taken ≡ x → (cond x.fits a c).taken ≡ cond x.fits b x
  picked x a c b e f = by x.fits
    where
      by : (g : Bool) → (cond g a c).taken ≡ cond g b x
      by true = e
      by false = f

  -- what a walk leaves of the board is what stepping over the rows does
  pub walk_over : (n p k : ℕ) (b : TeamBoard) → (walk l n p k b).taken ≡ step_over (rows_before l n p) b
  unfolding walk step_over rows_before
  walk_over zero p k b = refl
  walk_over (suc n) p k b =
      let t = team_taken_from b (back_row (row_at l (place_before p)) b) in
      picked t _ _ _ (walk_over n (place_before p) (suc k) t.board) refl
