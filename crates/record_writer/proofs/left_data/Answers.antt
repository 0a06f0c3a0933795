-- `record_writer::left_data` meets its contract. Assumes nothing.
use native.Mathlib.Omega.{arith}
use lib.ListN.{length}
use mir.Syntax.{w32}
use mir.Val.{to_z}
use Rattle.varint.proofs.Writing.{canonical_le}
use Rattle.record_writer.proofs.left_data.Goals as goal

pub overflow_add-int_size : goal.overflow_add-int_size
overflow_add-int_size c =
    omega (arith, c.int_size.ensures, canonical_le (to_z w32 (length c.show-b.result.now)))
