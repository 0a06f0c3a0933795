-- `step::open_call` meets its contract. Assumes nothing.
use mathlib.Core.Path.{◌∙◌}
use Rattle.step.proofs.Calls.{kind_got, kind_out, kind_refused_law}
use Rattle.step.proofs.open_call.Goals as goal

pub returns-in-Got : goal.returns-in-Got
returns-in-Got c =
    let a = c.args in
    let m = a.m.now in
    (rw c.tick_rule-rule.ensures at c.with_rule.ensures)
    ∙ kind_got a.s m a.w.now a.last _ c.next_kind-read.ensures c.in-Got.kind c.in-Got.next c.in-Got.is

pub returns-in-RunsOut : goal.returns-in-RunsOut
returns-in-RunsOut c =
    let a = c.args in
    let m = a.m.now in
    c.run_out.ensures m ∙ kind_out a.s m a.w.now a.last _ c.next_kind-read.ensures c.in-RunsOut.is

pub returns-in-Refused : goal.returns-in-Refused
returns-in-Refused c =
    let a = c.args in
    let m = a.m.now in
    c.refuse.ensures m ∙ kind_refused_law a.s m a.w.now a.last _ c.next_kind-read.ensures c.in-Refused.r c.in-Refused.is
