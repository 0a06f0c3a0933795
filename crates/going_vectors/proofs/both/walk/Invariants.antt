-- `going_vectors::both::walk` is safe and ends. Assumes nothing.
use Prim.Native.Nat.{◌≤◌, ◌+◌}
use Rattle.going_vectors.proofs.both.walk.Given as goal

abbrev pub invariant-loop-left : goal.invariant-loop-left
invariant-loop-left l = l.calls + l.left ≤ l.most

abbrev pub decreases-loop-left : goal.decreases-loop-left
decreases-loop-left l = l.left
