-- `reel_states::reel_in` is safe and ends. Assumes nothing.
use Prim.Native.Nat.{◌≤◌, ◌-◌}
use Rattle.reel_states.proofs.reel_in.Given as goal

abbrev pub invariant-loop-k : goal.invariant-loop-k
invariant-loop-k l = l.k ≤ l.k-end

abbrev pub decreases-loop-k : goal.decreases-loop-k
decreases-loop-k l = l.k-end - l.k
