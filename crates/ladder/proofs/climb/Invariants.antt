-- `ladder::climb` is safe and ends. Assumes nothing.
use Rattle.ladder.proofs.climb.Given as goal

abbrev pub decreases-loop-turns : goal.decreases-loop-turns
decreases-loop-turns g l = l.turns
