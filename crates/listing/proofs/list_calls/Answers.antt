-- `listing::list_calls` meets its contract. Assumes nothing.
use mathlib.Core.Path.{◌≡◌}
use native.Mathlib.Omega.{arith}
use borrow.Author.Rules.{rules}
use borrow.Author.Tests.{le-leb, not-true, not-false}
use mir.Syntax.{w32}
use mir.Val.{to_z, of_z}
use Rattle.results.specs.Results.{results_with}
use Rattle.listing.proofs.Turns.{starts, in_window, less, full, turn, more, finish, refused}
use Rattle.listing.proofs.list_calls.Goals as goal

pub loop-used-init : goal.loop-used-init
loop-used-init c =
    let a = c.args in
    (starts a.w.now a.last (results_with a.listed.now a.times.now a.ticks.now a.others) a.scalars
    a.m.now c.requires
    (le-leb a.others 18446744073709551615 (omega arith)))

pub returns-then-not-kept : goal.returns-then-not-kept
returns-then-not-kept c =
    let k = c in
    let o = k in
    let tick : to_z w32 (of_z w32 o.good_call-o.result.scalars.tick) ≡ o.good_call-o.result.scalars.tick = search rules in
    rw c.stopped.ensures
    (full o.loop-used.invariant o.good_call-o.result _ o.good_call-o.ensures k.in-Event.event k.in-Event.n k.in-Event.is k.keep_beside-kept.result _ (rw tick at k.keep_beside-kept.ensures)
    (not-true _ c.if-not-kept.true))

pub overflow_add-used : goal.overflow_add-used
overflow_add-used c =
    let o = c in
    let u = rw c.in-Event.is at (in_window o.loop-used.invariant o.good_call-o.result _ o.good_call-o.ensures) in
    record { fits = omega (arith, u) }

pub loop-used-smaller : goal.loop-used-smaller
loop-used-smaller c =
    let o = c in
    less o.loop-used.invariant o.good_call-o.result _ o.good_call-o.ensures c.in-Event.event c.in-Event.n c.in-Event.is

pub loop-used-preserved : goal.loop-used-preserved
loop-used-preserved c =
    let k = c in
    let o = k in
    let tick : to_z w32 (of_z w32 o.good_call-o.result.scalars.tick) ≡ o.good_call-o.result.scalars.tick = search rules in
    turn o.loop-used.invariant o.good_call-o.result _ o.good_call-o.ensures k.in-Event.event k.in-Event.n k.in-Event.is k.keep_beside-kept.result _ (rw tick at k.keep_beside-kept.ensures)
    (not-false _ c.if-not-kept.false)

pub returns-in-More : goal.returns-in-More
returns-in-More c =
    let o = c in
    rw c.stopped-in-More.ensures (more o.loop-used.invariant o.good_call-o.result _ o.good_call-o.ensures c.in-More.is)

pub overflow_add-used-in-Finish : goal.overflow_add-used-in-Finish
overflow_add-used-in-Finish c =
    let o = c in
    let u = rw c.in-Finish.is at (in_window o.loop-used.invariant o.good_call-o.result _ o.good_call-o.ensures) in
    record { fits = omega (arith, u) }

pub returns-in-Finish : goal.returns-in-Finish
returns-in-Finish c =
    let o = c in
    rw c.stopped-in-Finish.ensures (finish o.loop-used.invariant o.good_call-o.result _ o.good_call-o.ensures c.in-Finish.n c.in-Finish.is)

pub returns-in-Refused : goal.returns-in-Refused
returns-in-Refused c =
    let o = c in
    rw c.stopped-in-Refused.ensures (refused o.loop-used.invariant o.good_call-o.result _ o.good_call-o.ensures c.in-Refused.r c.in-Refused.is)
