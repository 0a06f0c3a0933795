-- `good::good_each` meets its contract. Assumes nothing.
use mathlib.Core.Path.{◌≡◌}
use Rattle.state.specs.State.{every}
use Rattle.state.specs.steps.Parts.{good_input}
use Rattle.good.specs.steps.Blocks.{from}
use Rattle.good.proofs.good_each.Given as goal

abbrev pub invariant-loop-k : goal.invariant-loop-k
invariant-loop-k l = l.good ≡ every l.k (from l.c (good_input l.held l.inputs))
