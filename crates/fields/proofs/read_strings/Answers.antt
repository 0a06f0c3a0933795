-- `fields::read_strings` meets its contract. The loop's invariant: the array holds the strings so far, and the strings still to come,
-- after those, are the answer. Assumes nothing.
use mathlib.Core.Path.{◌≡◌, sym, ◌∙◌, ap}
use native.Mathlib.Omega.{arith}
use Rattle.fields.specs.steps.Reads.{args_read}
use Rattle.fields.proofs.Arguments.{far_done, far_out, far_many, far_more}
use Rattle.fields.proofs.read_strings.Goals as goal

pub returns-in_default : goal.returns-in_default
returns-in_default c =
    let l = c.loop-count in
    let a = c.args in
    let e = sym c.read_string.ensures ∙ c.in_default.is in
    c.no_args.ensures
    ∙ sym (ap args_read (far_out a.s.now a.at a.n l.parts l.next l.count l.invariant (omega arith) e))

pub returns-then-count-eq16 : goal.returns-then-count-eq16
returns-then-count-eq16 c =
    let l = c.loop-count in
    let a = c.args in
    let e = sym c.read_string.ensures ∙ c.in-Got.is in
    c.no_args-then-count-eq16.ensures
    ∙ sym
    (ap args_read
    (far_many a.s.now a.at a.n l.parts l.next l.count l.invariant (omega arith) c.in-Got.part c.in-Got.past e c.if-count-eq16.true))

pub loop-count-preserved : goal.loop-count-preserved
loop-count-preserved c =
    let l = c.loop-count in
    let a = c.args in
    let e = sym c.read_string.ensures ∙ c.in-Got.is in
    far_more a.s.now a.at a.n l.parts l.next l.count l.invariant (omega arith) c.in-Got.part c.in-Got.past e c.if-count-eq16.false

pub returns : goal.returns
returns c =
    let l = c.loop-count in
    let a = c.args in
    let e : l.count ≡ a.n = omega (arith, l.invariant.some) in
    rw e at (far_done a.s.now a.at a.n l.parts l.next l.count l.invariant c.loop-count-test.false)
