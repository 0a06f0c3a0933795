-- `state_vectors::ended` is safe and ends. Assumes nothing.
use Prim.Native.Nat.{◌≤◌, ◌-◌}
use Rattle.state_vectors.proofs.ended.Given as goal

abbrev pub invariant-loop : goal.invariant-loop
invariant-loop l = l.counter ≤ 100

abbrev pub decreases-loop : goal.decreases-loop
decreases-loop l = 100 - l.counter
