-- `result_lines::put_rows` meets its contract. The loop's invariant: the lines still to come, put at the next place, make of the target what
-- all of them make of it. Assumes nothing.
use Rattle.result_lines.proofs.Rows.{Left}
use Rattle.result_lines.proofs.put_rows.Given as goal

abbrev pub invariant-loop-i : goal.invariant-loop-i
invariant-loop-i l = Left l.clients l.times l.ticks l.count l.initial.out l.at l.i l.next l.out
