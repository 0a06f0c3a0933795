-- `alike::same_marks` meets its contract. Assumes nothing.
use mathlib.Core.Path.{◌≡◌}
use Rattle.state.specs.State.{every}
use Rattle.alike.specs.Alike.{same_mark}
use Rattle.alike.proofs.same_marks.Given as goal

abbrev pub invariant-loop-i : goal.invariant-loop-i
invariant-loop-i l = l.all ≡ every l.i (same_mark l.a l.b)
