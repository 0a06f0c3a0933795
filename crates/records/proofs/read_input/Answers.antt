-- `records::read_input` meets its contract. Assumes nothing.
use mathlib.Core.Path.{◌≡◌}
use mir.Syntax.{w32}
use mir.Val.{to_z, of_z}
use Rattle.fields.specs.Views.{args_with}
use Rattle.fields.specs.declared.InputAnswer.TheVariants as inputs
use Rattle.records.proofs.Inputs.{input_rest}
use borrow.Author.Rules.{rules}
use Rattle.records.proofs.read_input.Goals as goal

pub returns-in_default : goal.returns-in_default
returns-in_default c =
    let r = c in
    let a = r.args in
    rw c.alone.ensures
    (input_rest a.new a.s.now a.at r.read_input-read.result inputs.RunsOut r.read_input-read.ensures c.in_default.is)

pub returns : goal.returns
unfolding args_with
returns c =
    let r = c in
    let a = r.args in
    let u : to_z w32 (of_z w32 c.in-Got.cid) ≡ c.in-Got.cid = search rules in
    rw (c.input_item.ensures, u)
    (input_rest a.new a.s.now a.at r.read_input-read.result (inputs.Got c.in-Got.cid c.in-Got.next) r.read_input-read.ensures c.in-Got.is)
