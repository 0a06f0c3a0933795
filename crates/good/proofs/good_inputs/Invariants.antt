-- `good::good_inputs` meets its contract. Assumes nothing.
use Prim.Native.Nat.{◌*◌}
use mathlib.Core.Path.{◌≡◌}
use Rattle.state.specs.State.{every}
use Rattle.state.specs.steps.Parts.{good_input}
use Rattle.good.proofs.good_inputs.Given as goal

abbrev pub invariant-loop-b : goal.invariant-loop-b
invariant-loop-b l = l.good ≡ every (16 * l.b) (good_input l.held l.inputs)
