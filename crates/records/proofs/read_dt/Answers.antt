-- `records::read_dt` meets its contract. Assumes nothing.
use mathlib.Core.Path.{◌≡◌, sym, ◌∙◌}
use mir.Syntax.{w32}
use mir.Val.{SFits, to_z, of_z}
use lib.Signed.{mag}
use Rattle.num.proofs.Signs.{not_below_zero}
use Rattle.records.proofs.Rests.{dt_out, dt_below, dt_got}
use borrow.Author.Rules.{rules}
use Rattle.records.proofs.read_dt.Goals as goal

pub returns-in_default : goal.returns-in_default
returns-in_default c =
    let a = c.args in
    dt_out a.s.now a.at (sym c.read_int.ensures ∙ c.in_default.is)

pub returns-then-value-lt0 : goal.returns-then-value-lt0
returns-then-value-lt0 c =
    let r = c in
    let a = r.args in
    dt_below a.s.now a.at c.in-Got.value c.in-Got.next c.in-Got.remark (search rules) c.if-value-lt0.true (sym r.read_int.ensures ∙ c.in-Got.is)

pub returns : goal.returns
returns c =
    let r = c in
    let a = r.args in
    let h : SFits w32 c.in-Got.value = search rules in
    let x : to_z w32 (of_z w32 c.in-Got.value) ≡ c.in-Got.value = search rules in
    let p = not_below_zero c.in-Got.value h c.if-value-lt0.false in
    rw (x ∙ p) (dt_got a.s.now a.at (mag c.in-Got.value) c.in-Got.next c.in-Got.remark (sym r.read_int.ensures ∙ c.in-Got.is ∙ rw p))
