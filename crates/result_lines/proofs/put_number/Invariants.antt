-- `result_lines::put_number` meets its contract. The loop's invariant: the bytes from a place on are the last digits and the line's end.
-- Assumes nothing.
use Rattle.result_lines.proofs.Number.{Behind}
use Rattle.result_lines.proofs.put_number.Given as goal

abbrev pub invariant-loop-left : goal.invariant-loop-left
invariant-loop-left l = Behind l.n l.bytes l.from l.left

abbrev pub decreases-loop-left : goal.decreases-loop-left
decreases-loop-left l = l.left
