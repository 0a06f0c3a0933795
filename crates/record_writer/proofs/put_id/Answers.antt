-- `record_writer::put_id` meets its contract. The loop's invariant: the bytes still to come make of the target what all of them make of
-- it. Assumes nothing.
use Prim.Native.Nat.{◌+◌, ◌≤◌}
use mathlib.Core.Path.{sym, ◌∙◌, ap}
use native.Mathlib.Omega.{arith}
use lib.ListN.{length, length-set, drop_of_length-le}
use Rattle.varint.proofs.Writing.{fits_written}
use Rattle.packer.proofs.Joined.{sets_step}
use Rattle.extensions.specs.Extensions.{id_at}
use Rattle.ids.proofs.Table.{id_length}
use Rattle.record_writer.proofs.put_id.Goals as goal
use Rattle.record_writer.proofs.put_id.Goals.{After-id_byte}

pub loop-i-preserved : goal.loop-i-preserved
loop-i-preserved c =
    let l = c.loop-i in
    let e = c in
    let a = e.args in
    let n = id_length a.which in
    let v = c.id_byte.ensures in (
      length-set l.out (a.at + l.i) _ ∙ l.invariant.0,
      (omega arith, rw v (sym (sets_step l.out (id_at a.which) a.at l.i (omega arith)) ∙ l.invariant.1.1)),
    )

pub returns : goal.returns
returns c =
    let l = c.loop-i in
    let e = c in
    let a = e.args in
    let n = id_length a.which in (
      ap (λ m. a.at + m) (sym n),
      (rw (drop_of_length-le (id_at a.which) {i = l.i} (omega arith)) at l.invariant.1.1)
          ∙ fits_written a.out.now a.at (id_at a.which) e.requires,
    )

-- the target has room for 16 bytes
room : (c : After-id_byte) → c.args.at + 16 ≤ length c.args.out.now
room c = omega (arith, id_length c.args.which, c.requires)

pub bounds-out-at : goal.bounds-out-at
bounds-out-at c =
    omega (arith, room c)
