-- `alike::same_numbers` meets its contract. Assumes nothing.
use mathlib.Core.Path.{◌≡◌}
use lib.ListN.{get_or}
use lib.IntN.{pos}
use Rattle.state.proofs.Numbers.{element}
use Rattle.state.proofs.Every.{none_yet, one_more}
use Rattle.alike.specs.Alike.{same_number}
use Rattle.alike.proofs.same_numbers.Goals as goal

pub loop-i-preserved : goal.loop-i-preserved
loop-i-preserved c =
    let a = c.args in
    let l = c.loop-i in
    let p = same_number a.a.now a.b.now in
    let x = element (get_or a.a.now l.i (pos 0)) c.x-1.given in
    let y = element (get_or a.b.now l.i (pos 0)) c.y-1.given in
    let t : c.same_number.result ≡ p l.i = rw (c.same_number.ensures, x, y) in
    one_more p l.i _ _ _ t l.invariant c.both-all.ensures

pub loop-i-init : goal.loop-i-init
loop-i-init c = none_yet _
