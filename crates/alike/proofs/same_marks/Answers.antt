-- `alike::same_marks` meets its contract. Assumes nothing.
use mathlib.Core.Path.{◌≡◌}
use Rattle.state.proofs.Every.{none_yet, one_more}
use Rattle.alike.specs.Alike.{same_mark}
use Rattle.alike.proofs.same_marks.Goals as goal

pub loop-i-preserved : goal.loop-i-preserved
loop-i-preserved c =
    let a = c.args in
    let l = c.loop-i in
    let p = same_mark a.a.now a.b.now in
    let t : c.same_mark.result ≡ p l.i = rw c.same_mark.ensures in
    one_more p l.i _ _ _ t l.invariant c.both-all.ensures

pub loop-i-init : goal.loop-i-init
loop-i-init c = none_yet _
