-- `good::good_inputs` meets its contract. Assumes nothing.
use native.Mathlib.Omega.{arith}
use Rattle.state.specs.State.{good_inputs}
use Rattle.state.specs.steps.Parts.{good_input}
use Rattle.good.proofs.Blocks.{one_block}
use Rattle.state.proofs.Every.{none_yet, all_tested}
use Rattle.good.proofs.good_inputs.Goals as goal

pub loop-b-preserved : goal.loop-b-preserved
loop-b-preserved c =
    let a = c.args in
    let l = c.loop-b in
    let p = good_input a.held.now a.inputs.now in
    one_block p l.b _ _ _ c.good_sixteen.ensures l.invariant c.both-good.ensures

pub returns : goal.returns
unfolding good_inputs
returns c = all_tested _ c.loop-b.invariant (omega arith)

pub loop-b-init : goal.loop-b-init
loop-b-init c = none_yet _
