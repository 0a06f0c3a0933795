-- `good::unmarked` meets its contract. Assumes nothing.
use mathlib.Core.Path.{◌≡◌}
use Rattle.state.specs.State.{every}
use Rattle.good.specs.steps.Blocks.{from, no_mark}
use Rattle.good.proofs.unmarked.Given as goal

abbrev pub invariant-loop-k : goal.invariant-loop-k
invariant-loop-k l = l.none ≡ every l.k (from l.c (no_mark l.held))
