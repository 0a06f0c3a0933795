-- `fields::read_input` meets its contract. Assumes nothing.
use mathlib.Core.Path.{◌≡◌, sym, ◌∙◌}
use borrow.Author.Rules.{rules}
use mir.Syntax.{w32}
use mir.Val.{to_z, of_z}
use Rattle.fields.proofs.Inputs.{input_got}
use Rattle.fields.proofs.read_input.Goals as goal

pub returns : goal.returns
returns c =
    let a = c.args in
    let x : to_z w32 (of_z w32 c.in-Got.cid) ≡ c.in-Got.cid = search rules in
    let e = sym c.read_int.ensures ∙ c.in-Got.is in
    rw x at c.read_ten.ensures ∙ input_got a.s.now a.at c.in-Got.cid c.in-Got.next c.in-Got.remark e
