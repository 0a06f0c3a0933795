-- `rewind::rewind` is safe and ends. Assumes nothing.
use Rattle.rewind.proofs.rewind.Given as goal

abbrev pub decreases-loop-turns : goal.decreases-loop-turns
decreases-loop-turns g l = l.turns
