-- `record_writer::put_pieces` meets its contract. The loop's invariant: the pieces from `i` on
-- can be written and make of the target what all of them make of it. Assumes nothing.
use mathlib.Core.Path.{◌≡◌}
use mathlib.Core.Bool.{true}
use lib.ListN.{drop}
use Rattle.pieces.specs.steps.Pieces.{pieces_of, pieces_ok, pieces_bytes}
use Rattle.record_writer.proofs.Puts.{Rest}
use Rattle.record_writer.proofs.put_pieces.Given as goal

abbrev pub invariant-loop-i : goal.invariant-loop-i
invariant-loop-i l =
    let ps = pieces_of l.o l.ten l.args in
    (pieces_ok l.s (drop l.i ps) ≡ true) × Rest l.initial.out l.at (pieces_bytes l.s ps) l.out l.next (pieces_bytes l.s (drop l.i ps))
