-- `rewinding::walk_over` meets its contract. Assumes nothing.
use Prim.Native.Nat.{◌-◌, ◌<◌}
use mathlib.Core.Path.{◌≡◌}
use Rattle.state.specs.State.{entries_with}
use Rattle.back.specs.Board.{board}
use Rattle.back.specs.TeamBoard.{team_board}
use Rattle.reel.specs.Reel.{reel_of}
use Rattle.reel.specs.declared.Counts.{Counts}
use Rattle.rewinding.specs.Walk.{walk}
use Rattle.rewinding.proofs.walk_over.Given as goal

-- k rows are stepped over, and what is left is that of those before p
abbrev pub invariant-loop-k : goal.invariant-loop-k
invariant-loop-k l =
    (l.p < 512)
    × ((counts : Counts)
    → walk (reel_of counts l.rows l.tens l.formers) (l.n - l.k) l.p l.k (team_board (board l.t (entries_with l.marks l.xs l.ys l.held l.inputs)) l.teams)
    ≡ walk (reel_of counts l.rows l.tens l.formers) l.n l.next 0 (team_board (board l.initial.t (entries_with l.initial.marks l.initial.xs l.initial.ys l.initial.held l.initial.inputs)) l.initial.teams))
