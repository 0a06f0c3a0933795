-- `count_lent::jolzerv_count_lent` counts the events of the definition's run. Assumes nothing.
use Prim.Native.Nat.{◌+◌}
use native.Mathlib.Omega.{arith}
use mathlib.Core.Path.{◌≡◌, ◌∙◌}
use Rattle.count.specs.Count.{version_if}
use Rattle.count.proofs.Singles.{far_start, far_end, far_more}
use Rattle.count_lent.proofs.Lents.{reader_of, left_is, used_is}
use Rattle.count_lent.proofs.jolzerv_count_lent.Goals as goal

pub loop-count-init : goal.loop-count-init
loop-count-init c =
    let e = c in
    let a = e.args in
    rw (e.of-m.ensures, e.empty-reader.ensures, e.version_if.ensures) (far_start (version_if a.second) a.body.now)

pub returns-in_default : goal.returns-in_default
returns-in_default c =
    let r = c.read_plain-o in
    let t = c in
    let l = t.loop-count in
    let a = t.args in
    let m = l.m in
    far_end (version_if a.second) a.body.now (reader_of l.scalars m) l.at l.count l.invariant (omega (arith, t.loop-count-test.true)) _
    (c.event_used.ensures ∙ used_is l.scalars m _ r.result _ r.ensures) c.in_default.is

pub loop-count-preserved : goal.loop-count-preserved
loop-count-preserved c =
    let u = c in
    let r = u.read_plain-o in
    let t = u in
    let l = t.loop-count in
    let a = t.args in
    let m = l.m in
    let g = far_more (version_if a.second) a.body.now (reader_of l.scalars m) l.at l.count l.invariant (omega (arith, t.loop-count-test.true)) _
    (u.event_used.ensures ∙ used_is l.scalars m _ r.result _ r.ensures) _ c.in-Some.used c.in-Some.is
    (left_is l.scalars m _ r.result _ r.ensures) in
    let e : c.past-at.result ≡ l.at + c.in-Some.used = omega (arith, c.past-at.ensures, g.within) in
    rw e g
