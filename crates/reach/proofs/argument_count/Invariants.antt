-- `reach::argument_count` is safe and ends. Assumes nothing.
use Rattle.std.proofs.Common.{◌-◌}
use Rattle.reach.proofs.argument_count.Given as goal

abbrev pub decreases-loop-count : goal.decreases-loop-count
decreases-loop-count g l = 4 - l.count
