-- `good::zeros` meets its contract. Assumes nothing.
use Prim.Native.Nat.{◌+◌, ◌*◌}
use mathlib.Core.Path.{◌≡◌}
use lib.ListN.{get_or}
use lib.IntN.{pos}
use Rattle.state.specs.steps.Parts.{zero_at}
use Rattle.state.proofs.Numbers.{element}
use Rattle.state.proofs.Every.{none_yet, one_more}
use Rattle.good.proofs.zeros.Goals as goal

pub loop-k-preserved : goal.loop-k-preserved
loop-k-preserved c =
    let a = c.args in
    let l = c.loop-k in
    let p = zero_at a.inputs.now a.c in
    let x = element (get_or a.inputs.now (10 * a.c + l.k) (pos 0)) c.x-1.given in
    let t : c.is_zero.result ≡ p l.k = rw (c.is_zero.ensures, x) in
    one_more p l.k _ _ _ t l.invariant c.both-blank.ensures

pub loop-k-init : goal.loop-k-init
loop-k-init c = none_yet _
