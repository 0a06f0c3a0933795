-- `record_writer::put_id` meets its contract. The loop's invariant: the bytes still to come make of the target what all of them make of
-- it. Assumes nothing.
use Prim.Native.Nat.{◌+◌, ◌≤◌}
use mathlib.Core.Path.{◌≡◌}
use lib.ListN.{length, drop}
use lib.Seq.{sets}
use Rattle.extensions.specs.Extensions.{id_at}
use Rattle.record_writer.proofs.put_id.Given as goal

abbrev pub invariant-loop-i : goal.invariant-loop-i
invariant-loop-i l = (length l.out ≡ length l.initial.out) × ((l.i ≤ 16) × (sets l.out (l.at + l.i) (drop l.i (id_at l.which)) ≡ sets l.initial.out l.at (id_at l.which)))
