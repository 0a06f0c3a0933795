-- `rows::put_ten` meets its contract. Assumes nothing.
use mathlib.Core.Path.{◌≡◌}
use lib.ListN.{length}
use lib.Seq.{paste}
use Rattle.rows.proofs.put_ten.Given as goal

abbrev pub invariant-loop-k : goal.invariant-loop-k
invariant-loop-k l = (length l.tens ≡ length l.initial.tens) × (l.tens ≡ paste l.initial.tens l.at l.ten l.k)
