-- `fields::read_ten` meets its contract. The loop's invariant: the numbers so far stand in the array, and those still to come, after
-- them, are the answer. Assumes nothing.
use mathlib.Core.Path.{◌≡◌, sym, ◌∙◌}
use native.Mathlib.Omega.{arith}
use borrow.Author.Rules.{rules}
use mir.Syntax.{w32}
use mir.Val.{to_z, of_z}
use Rattle.fields.proofs.Inputs.{far_start, far_done, far_out, far_more}
use Rattle.fields.proofs.read_ten.Goals as goal

pub loop-k-init : goal.loop-k-init
loop-k-init c = let a = c.args in far_start a.s.now a.at

pub returns-in_default : goal.returns-in_default
returns-in_default c =
    let l = c.loop-k in
    let a = c.args in
    let e = sym c.read_int.ensures ∙ c.in_default.is in
    c.no_input.ensures ∙ far_out a.s.now a.at l.input l.next l.k l.invariant (omega arith) a.cid e

pub loop-k-preserved : goal.loop-k-preserved
loop-k-preserved c =
    let l = c.loop-k in
    let a = c.args in
    let x : to_z w32 (of_z w32 c.in-Got.value) ≡ c.in-Got.value = search rules in
    let e = sym c.read_int.ensures ∙ c.in-Got.is in
    rw x (far_more a.s.now a.at l.input l.next l.k l.invariant (omega arith) c.in-Got.value c.in-Got.past c.in-Got.remark e)

pub returns : goal.returns
returns c =
    let l = c.loop-k in
    let s = c in
    let a = s.args in
    let x : to_z w32 (of_z w32 a.cid) ≡ a.cid = search rules in
    rw x (far_done a.s.now a.at l.input l.next l.k l.invariant c.loop-k-test.false a.cid)
