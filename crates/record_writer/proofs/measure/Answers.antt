-- `record_writer::measure` meets its contract. The loop's invariant: the pieces from `i` on leave of the room left what all of them leave of it. Assumes nothing.
use mathlib.Core.Path.{◌≡◌, ◌∙◌}
use lib.ListN.{get_or}
use Rattle.pieces.specs.steps.Pieces.{pieces_of}
use Rattle.pieces.specs.declared.Piece.TheVariants.{Empty}
use Rattle.record_writer.proofs.Leaves.{left_next}
use Rattle.record_writer.proofs.measure.Goals as goal

pub loop-i-preserved : goal.loop-i-preserved
loop-i-preserved c =
    let a = c.args in
    let l = c.loop-i in
    let p : c.piece_at.result ≡ get_or (pieces_of a.o a.ten a.args) l.i Empty =
    c.piece_at.ensures in
    rw (c.left_piece-left.ensures, p) (left_next a.s.now (pieces_of a.o a.ten a.args) l.i l.left ∙ l.invariant)
