-- `count_each::jolzerv_count_each` counts the events of the definition's run. Assumes nothing.
use Prim.Native.Nat.{◌-◌}
use Rattle.count.specs.Count.{version_if, most}
use Rattle.count.proofs.Singles.{Far}
use Rattle.count_each.proofs.jolzerv_count_each.Given as goal

abbrev pub invariant-loop-count : goal.invariant-loop-count
invariant-loop-count l = Far (version_if l.second) l.body l.reader l.at l.count

abbrev pub decreases-loop-count : goal.decreases-loop-count
decreases-loop-count l = most - l.count
