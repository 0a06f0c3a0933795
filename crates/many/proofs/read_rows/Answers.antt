-- `many::read_rows` meets its contract. Assumes nothing.
use mathlib.Core.Path.{◌≡◌}
use native.Mathlib.Omega.{arith}
use borrow.Author.Rules.{rules}
use mir.Syntax.{w32}
use mir.Val.{to_z, of_z}
use Rattle.many.proofs.Turns.{full, fits, turn, more, finish, refused}
use Rattle.many.proofs.read_rows.Goals as goal

pub overflow_add-used : goal.overflow_add-used
overflow_add-used c =
    let o = c in
    let t = o in
    let u = rw c.in-Event.is at (fits t.loop-count.invariant t.loop-count-test.true o.good_call-o.result _ o.good_call-o.ensures) in
    record { fits = omega (arith, u) }

pub loop-count-preserved : goal.loop-count-preserved
loop-count-preserved c =
    let o = c in
    let t = o in
    let p = c.pending_flag-pending in
    let j : to_z w32 (of_z w32 p.result) ≡ p.result = search rules in
    let pre = t.requires.1 in
    turn t.loop-count.invariant t.loop-count-test.true o.good_call-o.result _ o.good_call-o.ensures c.in-Event.event c.in-Event.n _ _ _ c.in-Event.is
    (rw (j, p.ensures) at c.put_event.ensures) c.put_event.auto.rows c.put_event.auto.tens
    (record {
      rows = omega (arith, t.loop-count-test.true, pre.rows, t.loop-count.invariant.rows);
      tens = omega (arith, t.loop-count-test.true, pre.tens, t.loop-count.invariant.tens);
    })

pub returns-in-More : goal.returns-in-More
returns-in-More c =
    let o = c in
    let t = o in
    rw c.stopped.ensures
    (more t.loop-count.invariant t.loop-count-test.true o.good_call-o.result _ o.good_call-o.ensures c.in-More.is)

pub overflow_add-used-in-Finish : goal.overflow_add-used-in-Finish
overflow_add-used-in-Finish c =
    let o = c in
    let t = o in
    let u = rw c.in-Finish.is at (fits t.loop-count.invariant t.loop-count-test.true o.good_call-o.result _ o.good_call-o.ensures) in
    record { fits = omega (arith, u) }

pub returns-in-Finish : goal.returns-in-Finish
returns-in-Finish c =
    let o = c in
    let t = o in
    rw c.stopped-in-Finish.ensures (finish t.loop-count.invariant t.loop-count-test.true o.good_call-o.result _ o.good_call-o.ensures c.in-Finish.n c.in-Finish.is)

pub returns-in-Refused : goal.returns-in-Refused
returns-in-Refused c =
    let o = c in
    let t = o in
    rw c.stopped-in-Refused.ensures (refused t.loop-count.invariant t.loop-count-test.true o.good_call-o.result _ o.good_call-o.ensures c.in-Refused.r c.in-Refused.is)

pub returns : goal.returns
returns c = rw c.stopped-2.ensures (full c.loop-count.invariant c.loop-count-test.false)
