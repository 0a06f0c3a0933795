-- `feed::shift` meets its contract. Assumes nothing.
use mathlib.Core.Path.{◌≡◌}
use lib.ListN.{length}
use lib.Seq.{slice}
use Rattle.feed.proofs.Fed.{moved}
use Rattle.feed.proofs.shift.Given as goal

abbrev pub invariant-loop-i : goal.invariant-loop-i
invariant-loop-i l = (length l.buf ≡ length l.initial.buf) × (l.buf ≡ moved l.initial.buf (slice l.at l.end l.initial.buf) l.i)
