-- `rewind_vectors::run_body` is safe and ends. Assumes nothing.
use Prim.Native.Nat.{◌≤◌, ◌-◌}
use Rattle.rewind_vectors.proofs.run_body.Given as goal

abbrev pub invariant-loop-k : goal.invariant-loop-k
invariant-loop-k l = l.k ≤ l.ticks

abbrev pub decreases-loop-k : goal.decreases-loop-k
decreases-loop-k l = l.ticks - l.k
