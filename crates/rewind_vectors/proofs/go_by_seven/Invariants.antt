-- `rewind_vectors::go_by_seven` is safe and ends. Assumes nothing.
use Prim.Native.Nat.{◌≤◌, ◌-◌}
use Rattle.rewind_vectors.proofs.go_by_seven.Given as goal

abbrev pub invariant-loop : goal.invariant-loop
invariant-loop l = l.counter ≤ 74

abbrev pub decreases-loop : goal.decreases-loop
decreases-loop l = 74 - l.counter
