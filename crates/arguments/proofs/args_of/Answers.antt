-- `arguments::args_of` meets its contract. Assumes nothing.
use mathlib.Core.Path.{sym, ◌∙◌}
use Rattle.arguments.proofs.Tests.{on}
use Rattle.arguments.proofs.Arguments.{args_plain, args_command, args_out, args_refused}
use Rattle.arguments.proofs.args_of.Goals as goal

pub returns-then-is_command : goal.returns-then-is_command
returns-then-is_command c =
    let a = c.args in
    args_command a.answer a.s a.w.now (on _ _ c.is_record.ensures c.if-not-is_record.false)
    _ c.next_kind-read.ensures c.in-Got.kind c.in-Got.next c.in-Got.is _ c.read_rest-rest.ensures

pub returns-else-is_command : goal.returns-else-is_command
returns-else-is_command c =
    let a = c.args in
    rw c.no_args-in-Got.ensures
    (args_plain a.answer a.s a.w.now (on _ _ c.is_record.ensures c.if-not-is_record.false)
    _ c.next_kind-read.ensures c.in-Got.kind c.in-Got.next c.in-Got.is (sym c.is_command.ensures ∙ c.if-is_command.false))

pub returns-in-RunsOut : goal.returns-in-RunsOut
returns-in-RunsOut c =
    let a = c.args in
    rw c.no_args-in-RunsOut.ensures
    (args_out a.answer a.s a.w.now (on _ _ c.is_record.ensures c.if-not-is_record.false)
    _ c.next_kind-read.ensures c.in-RunsOut.is)

pub returns-in-Refused : goal.returns-in-Refused
returns-in-Refused c =
    let a = c.args in
    rw c.no_args-in-Refused.ensures
    (args_refused a.answer a.s a.w.now (on _ _ c.is_record.ensures c.if-not-is_record.false)
    _ c.next_kind-read.ensures c.in-Refused.field-0 c.in-Refused.is)
