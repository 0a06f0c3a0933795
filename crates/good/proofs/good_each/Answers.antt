-- `good::good_each` meets its contract. Assumes nothing.
use Rattle.state.specs.steps.Parts.{good_input}
use Rattle.good.specs.steps.Blocks.{from}
use Rattle.state.proofs.Every.{none_yet, one_more}
use Rattle.good.proofs.good_each.Goals as goal

pub loop-k-preserved : goal.loop-k-preserved
loop-k-preserved c =
    let a = c.args in
    let l = c.loop-k in
    let p = from a.c (good_input a.held.now a.inputs.now) in
    one_more p l.k _ _ _ c.good_input.ensures l.invariant c.both-good.ensures

pub loop-k-init : goal.loop-k-init
loop-k-init c = none_yet _
