-- `list_vectors::by_events` is safe and ends. Assumes nothing.
use Prim.Native.Nat.{◌≤◌, ◌-◌}
use Rattle.list_vectors.proofs.by_events.Given as goal

abbrev pub invariant-loop : goal.invariant-loop
invariant-loop l = l.counter ≤ 400000

abbrev pub decreases-loop : goal.decreases-loop
decreases-loop l = 400000 - l.counter
