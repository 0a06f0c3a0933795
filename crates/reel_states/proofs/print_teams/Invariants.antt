-- `reel_states::print_teams` is safe and ends. Assumes nothing.
use Prim.Native.Nat.{◌≤◌, ◌-◌}
use Rattle.reel_states.proofs.print_teams.Given as goal

abbrev pub invariant-loop-c : goal.invariant-loop-c
invariant-loop-c l = l.c ≤ 128

abbrev pub decreases-loop-c : goal.decreases-loop-c
decreases-loop-c l = 128 - l.c
