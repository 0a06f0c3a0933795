-- `lines::put_numbers` meets its contract. The loop's invariant: the numbers still to come, put at the next place, make of the target what
-- all of them make of it. Assumes nothing.
use Prim.Native.Nat.{◌+◌}
use mathlib.Core.Path.{◌≡◌}
use lib.ListN.{length, drop}
use Rattle.varint.specs.Written.{written}
use Rattle.lines.specs.Lines.{decimals}
use Rattle.lines.proofs.put_numbers.Given as goal

abbrev pub invariant-loop-n : goal.invariant-loop-n
invariant-loop-n l =
    (length l.out ≡ length l.initial.out)
    × ((l.next + length (decimals (drop l.n-index l.ns)) ≡ l.at + length (decimals l.ns))
    × (written l.out l.next (decimals (drop l.n-index l.ns)) ≡ written l.initial.out l.at (decimals l.ns)))
