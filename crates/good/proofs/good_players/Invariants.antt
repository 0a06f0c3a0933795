-- `good::good_players` meets its contract. Assumes nothing.
use mathlib.Core.Path.{◌≡◌}
use Rattle.state.specs.State.{every}
use Rattle.state.specs.steps.Parts.{good_player}
use Rattle.good.proofs.good_players.Given as goal

abbrev pub invariant-loop-i : goal.invariant-loop-i
invariant-loop-i l = l.good ≡ every l.i (good_player l.marks l.xs l.ys)
