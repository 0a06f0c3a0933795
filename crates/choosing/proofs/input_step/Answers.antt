-- `choosing::input_step` meets its contract. Assumes nothing.
use mathlib.Core.Path.{sym, ◌∙◌}
use borrow.Author.Rules.{sfits_of}
use borrow.Author.Tests.{eq-eqb, ne_eqb}
use Rattle.state.proofs.Numbers.{back}
use Rattle.choosing.proofs.Forms.{none_chosen}
use Rattle.choosing.proofs.Places.{input_away, input_same, input_new_law}
use Rattle.choosing.proofs.input_step.Goals as goal

pub returns-then-q-ne1 : goal.returns-then-q-ne1
returns-then-q-ne1 c =
    let a = c.args in
    input_away a.c a.p a.q _ (ne_eqb a.q.mark 1 c.if-q-ne1.true) none_chosen

pub returns-then-same_held : goal.returns-then-same_held
returns-then-same_held c =
    let a = c.args in
    input_same a.c a.p a.q _
    (eq-eqb a.q.mark 1 c.if-q-ne1.false)
    (sym c.same_held.ensures ∙ c.if-same_held.true)
    none_chosen

pub returns : goal.returns
returns c =
    let a = c.args in
    input_new_law a.c a.p a.q _
    (eq-eqb a.q.mark 1 c.if-q-ne1.false)
    (sym c.same_held.ensures ∙ c.if-same_held.false)
    _
    (back c.number.result (sfits_of c.number.type_inv) ∙ c.number.ensures)
    c.with_ten.ensures
