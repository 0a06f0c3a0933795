-- `record_writer::left_piece` meets its contract. Assumes nothing.
use mathlib.Core.Path.{◌∙◌}
use Rattle.record_writer.proofs.Leaves.{left_id}
use Rattle.record_writer.proofs.left_piece.Goals as goal

pub returns-in-Id : goal.returns-in-Id
returns-in-Id c =
    rw c.in-Id.is (c.left_after-in-Id.ensures ∙ left_id c.args.left c.in-Id.field-0)

-- ?? inline: rw c.enum_told.given.1 (left_none c.before.before.before.args.left)
