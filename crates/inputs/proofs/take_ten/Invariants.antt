-- `inputs::take_ten` meets its contract. Assumes nothing.
use mathlib.Core.Path.{◌≡◌}
use lib.ListN.{length}
use lib.Seq.{paste}
use Rattle.state.specs.State.{ten_of}
use Rattle.inputs.proofs.take_ten.Given as goal

abbrev pub invariant-loop-k : goal.invariant-loop-k
invariant-loop-k g l = (length l.t ≡ 10) × (l.t ≡ paste l.initial.t 0 (ten_of l.numbers l.p) l.k)
