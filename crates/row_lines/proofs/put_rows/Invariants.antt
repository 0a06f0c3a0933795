-- `row_lines::put_rows` meets its contract. The loop's invariant: of the events of which the rows tell, the lines still to come, put at the
-- place, make of the target what all lines make of it. Assumes nothing.
use mathlib.Core.Path.{◌≡◌}
use lib.ListN.{length}
use Rattle.row_lines.proofs.Onward.{Sofar}
use Rattle.row_lines.proofs.put_rows.Given as goal

abbrev pub invariant-loop-i : goal.invariant-loop-i
invariant-loop-i l = (length l.out ≡ length l.initial.out) × Sofar l.rows l.tens l.count l.initial.out l.i l.at l.out
