-- `rests::with_skip` meets its contract. Assumes nothing.
use mathlib.Core.Path.{◌≡◌, sym, ◌∙◌}
use borrow.Author.Rules.{rules}
use mir.Syntax.{w32}
use mir.Val.{SFits, to_z, of_z}
use lib.Signed.{mag}
use Rattle.num.proofs.Signs.{below_zero, not_below_zero}
use Rattle.rests.proofs.Rests.{skip_out, skip_negative, skip_got}
use Rattle.rests.proofs.with_skip.Goals as goal

pub returns-in_default : goal.returns-in_default
returns-in_default c m =
    let r = c in
    let a = r.args in
    c.run_out.ensures m ∙ skip_out a.s m a.last a.w.now a.at (sym r.read_int.ensures ∙ c.in_default.is)

pub returns-then-value-lt0 : goal.returns-then-value-lt0
returns-then-value-lt0 c m =
    let r = c in
    let a = r.args in
    let h : SFits w32 c.in-Got.value = search rules in
    let p = below_zero c.in-Got.value h c.if-value-lt0.true in
    c.refuse.ensures m
    ∙ skip_negative a.s m a.last a.w.now a.at (mag c.in-Got.value) c.in-Got.next c.in-Got.remark (sym r.read_int.ensures ∙ c.in-Got.is ∙ rw p)

pub returns : goal.returns
returns c m =
    let r = c in
    let a = r.args in
    let h : SFits w32 c.in-Got.value = search rules in
    let x : to_z w32 (of_z w32 c.in-Got.value) ≡ c.in-Got.value = search rules in
    let p = not_below_zero c.in-Got.value h c.if-value-lt0.false in
    (rw (x ∙ p) at (c.tick_skip.ensures m))
    ∙ skip_got a.s m a.last a.w.now a.at (mag c.in-Got.value) c.in-Got.next c.in-Got.remark (sym r.read_int.ensures ∙ c.in-Got.is ∙ rw p)
