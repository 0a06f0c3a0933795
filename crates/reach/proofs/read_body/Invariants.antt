-- `reach::read_body` is safe and ends. Assumes nothing.
use Rattle.reach.proofs.read_body.Given as goal

abbrev pub decreases-loop-turns : goal.decreases-loop-turns
decreases-loop-turns g l = l.turns
