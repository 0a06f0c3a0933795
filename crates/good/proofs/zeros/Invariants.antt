-- `good::zeros` meets its contract. Assumes nothing.
use mathlib.Core.Path.{◌≡◌}
use Rattle.state.specs.State.{every}
use Rattle.state.specs.steps.Parts.{zero_at}
use Rattle.good.proofs.zeros.Given as goal

abbrev pub invariant-loop-k : goal.invariant-loop-k
invariant-loop-k l = l.blank ≡ every l.k (zero_at l.inputs l.c)
