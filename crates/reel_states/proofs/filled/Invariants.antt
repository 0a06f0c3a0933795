-- `reel_states::filled` is safe and ends. Assumes nothing.
use Prim.Native.Nat.{◌≤◌, ◌-◌}
use Rattle.reel_states.proofs.filled.Given as goal

abbrev pub invariant-loop-p : goal.invariant-loop-p
invariant-loop-p l = l.p ≤ 512

abbrev pub decreases-loop-p : goal.decreases-loop-p
decreases-loop-p l = 512 - l.p
