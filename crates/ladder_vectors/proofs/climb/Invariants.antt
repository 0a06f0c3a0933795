-- `ladder_vectors::climb` is safe and ends. Assumes nothing.
use Prim.Native.Nat.{◌≤◌, ◌-◌}
use Rattle.ladder_vectors.proofs.climb.Given as goal

abbrev pub invariant-loop-turns : goal.invariant-loop-turns
invariant-loop-turns l = l.turns ≤ 400000

abbrev pub decreases-loop-turns : goal.decreases-loop-turns
decreases-loop-turns l = 400000 - l.turns
