-- `outlines::other_outline` meets its contract. Assumes nothing.
use mathlib.Core.Path.{sym, ◌∙◌}
use Rattle.outlines.proofs.Extensions.{other_outlines, known_id}
use Rattle.outlines.proofs.other_outline.Goals as goal

pub returns-in-Some : goal.returns-in-Some
returns-in-Some c =
    let a = c.args in
    let e = sym c.find_id.ensures ∙ c.in-Some.is in
    rw c.never.ensures (known_id a.s.now a.f a.ten a.args c.in-Some.field-0 e a.version)

pub returns-in-None : goal.returns-in-None
returns-in-None c =
    let a = c.args in
    let e = sym c.find_id.ensures ∙ c.in-None.is in
    let o = rw (c.plan_with.ensures, c.ex_number.ensures) at c.outline_with.ensures in
    rw o (other_outlines a.s.now a.f a.ten a.args e a.version)
