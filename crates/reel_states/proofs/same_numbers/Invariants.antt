-- `reel_states::same_numbers` is safe and ends. Assumes nothing.
use Prim.Native.Nat.{◌≤◌, ◌-◌}
use Rattle.reel_states.proofs.same_numbers.Given as goal

abbrev pub invariant-loop-i : goal.invariant-loop-i
invariant-loop-i l = l.i ≤ 5120

abbrev pub decreases-loop-i : goal.decreases-loop-i
decreases-loop-i l = 5120 - l.i
