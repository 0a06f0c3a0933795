-- `rests::with_input` meets its contract. Assumes nothing.
use mathlib.Core.Path.{◌≡◌, ◌∙◌}
use mathlib.Core.Bool.{Bool, true, false}
use borrow.Author.Rules.{rules}
use mir.Syntax.{w32}
use mir.Val.{to_z, of_z}
use Rattle.fields.specs.declared.InputAnswer.TheVariants as answers
use Rattle.item.specs.Records.{read_rest}
use Rattle.kinds.specs.steps.Kinds.{input_kind}
use Rattle.state.specs.Slim.{slim_step}
use Rattle.state.specs.steps.Parts.{with_rest}
use Rattle.rests.proofs.Rests.{input_step, input_rest}
use Rattle.rests.proofs.with_input.Goals as goal
use Rattle.rests.proofs.with_input.Goals.{After-input_diff, After-input_new}

pub returns-in_default : goal.returns-in_default
returns-in_default c =
    let r = c in
    let a = r.args in
    let m = a.m.now in
    c.run_out.ensures m ∙ input_rest a.s m a.last a.w.now a.at a.new _ answers.RunsOut r.read_input-read.ensures c.in_default.is

-- the input that was read
got : (c : After-input_new) (new : Bool)
    → (let r = c in
    let a = r.args in
    let m = a.m.now in
    input_step a.s m a.last a.w.now a.at new c.in-Got.cid r.read_input-read.result.input c.in-Got.next
    ≡ slim_step (with_rest a.s m a.last (read_rest (input_kind new) a.w.now a.at)))
got c new =
    let r = c in
    let a = r.args in
    let m = a.m.now in
    input_rest a.s m a.last a.w.now a.at new _ (answers.Got c.in-Got.cid c.in-Got.next) r.read_input-read.ensures c.in-Got.is

kept : (c : After-input_new) → (to_z w32 (of_z w32 c.in-Got.cid) ≡ c.in-Got.cid)
kept c = search rules

pub returns-then-new : goal.returns-then-new
returns-then-new c =
    let n = c in
    rw c.if-new.true
    (rw (n.raised-t.ensures, kept n) at c.input_new.ensures ∙ got n true)

-- the input that was read
got_2 : (c : After-input_diff) (new : Bool)
    → (let r = c in
    let a = r.args in
    let m = a.m.now in
    input_step a.s m a.last a.w.now a.at new c.in-Got.cid r.read_input-read.result.input c.in-Got.next
    ≡ slim_step (with_rest a.s m a.last (read_rest (input_kind new) a.w.now a.at)))
got_2 c new =
    let r = c in
    let a = r.args in
    let m = a.m.now in
    input_rest a.s m a.last a.w.now a.at new _ (answers.Got c.in-Got.cid c.in-Got.next) r.read_input-read.ensures c.in-Got.is

kept_2 : (c : After-input_diff) → (to_z w32 (of_z w32 c.in-Got.cid) ≡ c.in-Got.cid)
kept_2 c = search rules

pub returns : goal.returns
returns c =
    let n = c in
    rw c.if-new.false
    (rw (n.raised-t.ensures, kept_2 n) at c.input_diff.ensures ∙ got_2 n false)
