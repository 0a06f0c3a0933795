-- `inputs::put_ten` meets its contract. Assumes nothing.
use mathlib.Core.Path.{◌≡◌}
use lib.ListN.{take}
use Rattle.state.specs.State.{places, puts}
use Rattle.inputs.proofs.put_ten.Given as goal

abbrev pub invariant-loop-k : goal.invariant-loop-k
invariant-loop-k g l = l.numbers ≡ puts l.initial.numbers l.p l.t (take l.k places)
