-- `record_writer::measure` meets its contract. The loop's invariant: the pieces from `i` on leave of the room left what all of them leave of it. Assumes nothing.
use mathlib.Core.Path.{◌≡◌}
use lib.ListN.{length, drop}
use Rattle.pieces.specs.steps.Pieces.{pieces_of, pieces_ok, pieces_bytes}
use Rattle.record_writer.specs.steps.Room.{left_after}
use Rattle.record_writer.proofs.measure.Given as goal

abbrev pub invariant-loop-i : goal.invariant-loop-i
invariant-loop-i l =
    let ps = pieces_of l.o l.ten l.args in
    left_after l.left (pieces_ok l.s (drop l.i ps)) (length (pieces_bytes l.s (drop l.i ps))) ≡ left_after l.initial.left (pieces_ok l.s ps) (length (pieces_bytes l.s ps))
