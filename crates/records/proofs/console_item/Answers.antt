-- `records::console_item` meets its contract. Assumes nothing.
use mathlib.Core.Path.{◌≡◌, sym, ◌∙◌, ap}
use mir.Syntax.{w32}
use mir.Val.{to_z, of_z}
use Rattle.fields.specs.declared.ArgsAnswer.{ArgsAnswer}
use Rattle.fields.specs.declared.ArgsAnswer.TheVariants as arguments
use Rattle.kinds.specs.declared.Kind.TheVariants as kinds
use Rattle.item.specs.Records.{read_rest}
use Rattle.records.specs.steps.Views.{item_is, own}
use Rattle.records.proofs.Commands.{no_head, item_after, command_own}
use borrow.Author.Rules.{rules}
use Rattle.records.proofs.console_item.Goals as goal
use Rattle.records.proofs.console_item.Goals.{In-Got-answer, In-Refused, In-RunsOut}

pub returns-in_default : goal.returns-in_default
returns-in_default c =
    let h = c in
    let a = h.args in
    ap own (no_head a.s.now a.at h.read_head.result h.read_head.ensures c.in_default.is)

-- the command that the head and the answer to its arguments make
told : (r : In-Got-answer) (x : ArgsAnswer) → r.skip_args-answer.result ≡ x
    → let a = r.args in
    item_is (item_after r.in-Got.cid r.in-Got.flag_mask r.in-Got.cmd x) ≡ own (read_rest kinds.ConsoleCommand a.s.now a.at)
told r x e =
    let h = r in
    let a = h.args in
    command_own a.s.now a.at h.read_head.result h.read_head.ensures r.in-Got.cid r.in-Got.flag_mask r.in-Got.cmd r.in-Got.next r.in-Got.is
    x (sym e ∙ r.skip_args-answer.ensures)

pub returns-in-Got-answer : goal.returns-in-Got-answer
returns-in-Got-answer c =
    let r = c in
    let k : to_z w32 (of_z w32 r.in-Got.cid) ≡ r.in-Got.cid = search rules in
    rw k (told r (arguments.Got c.in-Got-answer.past) c.in-Got-answer.is)

-- the command that the head and the answer to its arguments make
told_2 : (r : In-RunsOut) (x : ArgsAnswer) → r.skip_args-answer.result ≡ x
    → let a = r.args in
    item_is (item_after r.in-Got.cid r.in-Got.flag_mask r.in-Got.cmd x) ≡ own (read_rest kinds.ConsoleCommand a.s.now a.at)
told_2 r x e =
    let h = r in
    let a = h.args in
    command_own a.s.now a.at h.read_head.result h.read_head.ensures r.in-Got.cid r.in-Got.flag_mask r.in-Got.cmd r.in-Got.next r.in-Got.is
    x (sym e ∙ r.skip_args-answer.ensures)

pub returns-in-RunsOut : goal.returns-in-RunsOut
returns-in-RunsOut c = told_2 c arguments.RunsOut c.in-RunsOut.is

-- the command that the head and the answer to its arguments make
told_3 : (r : In-Refused) (x : ArgsAnswer) → r.skip_args-answer.result ≡ x
    → let a = r.args in
    item_is (item_after r.in-Got.cid r.in-Got.flag_mask r.in-Got.cmd x) ≡ own (read_rest kinds.ConsoleCommand a.s.now a.at)
told_3 r x e =
    let h = r in
    let a = h.args in
    command_own a.s.now a.at h.read_head.result h.read_head.ensures r.in-Got.cid r.in-Got.flag_mask r.in-Got.cmd r.in-Got.next r.in-Got.is
    x (sym e ∙ r.skip_args-answer.ensures)

pub returns-in-Refused : goal.returns-in-Refused
returns-in-Refused c =
    told_3 c (arguments.Refused c.in-Refused.r) c.in-Refused.is
