-- `rewind_vectors::refuse_each` is safe and ends. Assumes nothing.
use Prim.Native.Nat.{◌≤◌, ◌-◌}
use Rattle.rewind_vectors.proofs.refuse_each.Given as goal

abbrev pub invariant-loop : goal.invariant-loop
invariant-loop l = l.counter ≤ l.ticks

abbrev pub decreases-loop : goal.decreases-loop
decreases-loop l = l.ticks - l.counter
