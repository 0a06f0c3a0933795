-- `rewind::go_all` is safe and ends. Assumes nothing.
use Rattle.rewind.proofs.go_all.Given as goal

abbrev pub decreases-loop-calls : goal.decreases-loop-calls
decreases-loop-calls l = l.calls
