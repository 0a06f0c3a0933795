-- `count_each::jolzerv_count_each` counts the events of the definition's run. Assumes nothing.
use Prim.Native.Nat.{◌+◌}
use native.Mathlib.Omega.{arith}
use mathlib.Core.Path.{◌≡◌, ◌∙◌}
use Rattle.count.specs.Count.{version_if}
use Rattle.count.proofs.Singles.{far_start, far_end, far_more}
use Rattle.count_each.proofs.Singles.{used_is}
use Rattle.count_each.proofs.jolzerv_count_each.Goals as goal

pub loop-count-init : goal.loop-count-init
loop-count-init c =
    let a = c.args in
    rw (c.empty-reader.ensures, c.version_if.ensures) (far_start (version_if a.second) a.body.now)

pub returns-in_default : goal.returns-in_default
returns-in_default c =
    let t = c in
    let l = t.loop-count in
    let a = t.args in
    let r = c.read-read in
    far_end (version_if a.second) a.body.now l.reader l.at l.count l.invariant (omega (arith, t.loop-count-test.true)) _
    (c.event_used.ensures ∙ used_is _ r.result r.ensures) c.in_default.is

pub loop-count-preserved : goal.loop-count-preserved
loop-count-preserved c =
    let u = c in
    let t = u in
    let l = t.loop-count in
    let a = t.args in
    let r = u.read-read in
    let m = far_more (version_if a.second) a.body.now l.reader l.at l.count l.invariant (omega (arith, t.loop-count-test.true)) _
    (u.event_used.ensures ∙ used_is _ r.result r.ensures) r.result.reader c.in-Some.used c.in-Some.is r.ensures.left in
    let e : c.past-at.result ≡ l.at + c.in-Some.used = omega (arith, c.past-at.ensures, m.within) in
    rw e m
