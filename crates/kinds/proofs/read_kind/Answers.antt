-- `kinds::read_kind` meets its contract. Assumes nothing.
use mathlib.Core.Path.{◌≡◌, sym, ap, ◌∙◌}
use borrow.Author.Rules.{rules}
use lib.IntN.{ℤ}
use mir.Syntax.{w32}
use mir.Val.{to_z, of_z}
use Rattle.kinds.specs.Kinds.{kind_of, read_kind}
use Rattle.kinds.specs.steps.Kinds.{after_number}
use Rattle.kinds.proofs.read_kind.Goals as goal

pub returns-in_default : goal.returns-in_default
unfolding read_kind
returns-in_default c =
    let a = c.args in
    ap (after_number a.version a.s.now) (sym c.in_default.is ∙ c.read_int.ensures)

pub returns : goal.returns
unfolding read_kind
returns c =
    let a = c.args in
    let u : to_z w32 (of_z w32 c.in-Got.value) ≡ c.in-Got.value = search rules in
    c.kind_of.ensures
    ∙ ap (λ (z : ℤ). kind_of a.version a.s.now z c.in-Got.next) u
    ∙ ap (after_number a.version a.s.now) (sym c.in-Got.is ∙ c.read_int.ensures)
