-- `count_many::jolzerv_count_many` counts the events of the definition's run. Assumes nothing.
use Prim.Native.Nat.{◌-◌}
use mathlib.Core.Path.{◌≡◌}
use lib.ListN.{length}
use Rattle.count.specs.Count.{version_if}
use Rattle.count_many.proofs.Manies.{Far}
use Rattle.count_many.proofs.jolzerv_count_many.Given as goal

abbrev pub invariant-loop : goal.invariant-loop
invariant-loop l =
    Far (version_if l.second) l.body l.reader l.at l.count (1125899906842624 - l.counter) × ((length l.rows ≡ 32768) × (length l.tens ≡ 81920))
