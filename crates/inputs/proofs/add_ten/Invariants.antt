-- `inputs::add_ten` meets its contract. Assumes nothing.
use mathlib.Core.Path.{◌≡◌}
use lib.ListN.{length}
use lib.Seq.{paste}
use Rattle.state.specs.Reading.{sums}
use Rattle.inputs.proofs.add_ten.Given as goal

abbrev pub invariant-loop-k : goal.invariant-loop-k
invariant-loop-k l = (length l.t ≡ 10) × (l.t ≡ paste l.initial.t 0 (sums l.f l.d) l.k)
