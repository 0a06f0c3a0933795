-- `reeling::keep_calls` meets its contract. Assumes nothing.
use native.Mathlib.Omega.{arith}
use Rattle.keeping.specs.steps.Lent.{kept_is}
use Rattle.reeling.proofs.Turns.{full, fits, turn, more, finish, refused}
use Rattle.reeling.proofs.keep_calls.Goals as goal

pub overflow_add-used : goal.overflow_add-used
overflow_add-used c =
    let o = c in
    let t = o in
    let u = rw c.in-Event.is at (fits t.loop-count.invariant t.loop-count-test.true o.good_call-o.result _ o.good_call-o.ensures) in
    record { fits = omega (arith, u, t.well_formed.1.1.1.0.0) }

pub loop-count-preserved : goal.loop-count-preserved
loop-count-preserved c =
    let k = c.keep_lent-kept in
    let p = c.apply-team in
    let o = c in
    let t = o in
    turn t.loop-count.invariant t.loop-count-test.true o.good_call-o.result _ o.good_call-o.ensures c.in-Event.event c.in-Event.n p.result _
    (kept_is k.result _ _ _) c.in-Event.is p.ensures k.ensures

pub returns-in-More : goal.returns-in-More
returns-in-More c =
    let o = c in
    let t = o in
    rw c.stopped.ensures
    (more t.loop-count.invariant t.loop-count-test.true o.good_call-o.result _ o.good_call-o.ensures c.in-More.is)

pub overflow_add-used-in-Finish : goal.overflow_add-used-in-Finish
overflow_add-used-in-Finish c =
    let o = c in
    let t = o in
    let u = rw c.in-Finish.is at (fits t.loop-count.invariant t.loop-count-test.true o.good_call-o.result _ o.good_call-o.ensures) in
    record { fits = omega (arith, u, t.well_formed.1.1.1.0.0) }

pub returns-in-Finish : goal.returns-in-Finish
returns-in-Finish c =
    let o = c in
    let t = o in
    rw c.stopped-in-Finish.ensures (finish t.loop-count.invariant t.loop-count-test.true o.good_call-o.result _ o.good_call-o.ensures c.in-Finish.n c.in-Finish.is)

pub returns-in-Refused : goal.returns-in-Refused
returns-in-Refused c =
    let o = c in
    let t = o in
    rw c.stopped-in-Refused.ensures (refused t.loop-count.invariant t.loop-count-test.true o.good_call-o.result _ o.good_call-o.ensures c.in-Refused.r c.in-Refused.is)

pub returns : goal.returns
returns c = rw c.stopped-2.ensures (full c.loop-count.invariant c.loop-count-test.false)
