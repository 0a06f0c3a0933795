-- `count_lent::jolzerv_count_lent` counts the events of the definition's run. Assumes nothing.
use Prim.Native.Nat.{◌-◌}
use Rattle.count.specs.Count.{version_if, most}
use Rattle.count.proofs.Singles.{Far}
use Rattle.count_lent.proofs.Lents.{reader_of}
use Rattle.count_lent.proofs.jolzerv_count_lent.Given as goal

abbrev pub invariant-loop-count : goal.invariant-loop-count
invariant-loop-count l =
    Far (version_if l.second) l.body (reader_of l.scalars l.m) l.at l.count

abbrev pub decreases-loop-count : goal.decreases-loop-count
decreases-loop-count l =
    most - l.count
