-- `good::unmarked` meets its contract. Assumes nothing.
use mathlib.Core.Path.{refl}
use Rattle.good.specs.steps.Blocks.{from, no_mark}
use Rattle.state.proofs.Every.{none_yet, one_more}
use Rattle.good.proofs.unmarked.Goals as goal

pub loop-k-preserved : goal.loop-k-preserved
loop-k-preserved c =
    let a = c.args in
    let l = c.loop-k in
    one_more (from a.c (no_mark a.held.now)) l.k _ _ _ refl l.invariant c.both-none.ensures

pub loop-k-init : goal.loop-k-init
loop-k-init c = none_yet _
