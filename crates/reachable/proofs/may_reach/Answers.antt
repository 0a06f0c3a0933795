-- `reachable::may_reach` meets its contract. Assumes nothing.
use Rattle.std.specs.Prelude.{Option, Some, ℤ}
use mathlib.Core.Path.{◌≡◌, sym, ◌∙◌, ap}
use mir.Syntax.{w32}
use mir.Val.{to_z, of_z}
use borrow.Author.Rules.{rules}
use Rattle.state.specs.State.{entries_with}
use Rattle.choice.specs.Reaching.{unreachable}
use Rattle.reachable.proofs.Answers.{both_are, unreachable_in, may_bad, may_closed, may_mid, may_never, may_now}
use Rattle.reachable.proofs.may_reach.Goals as goal

pub returns-then-not-good : goal.returns-then-not-good
returns-then-not-good c =
    may_bad _ _ (both_are _ _ _ _ _ c.both-good.ensures c.good_from.ensures c.good_to.ensures ∙ c.if-not-good.true)

pub returns-then-closed : goal.returns-then-closed
returns-then-closed c =
    may_closed _ _ (both_are _ _ _ _ _ c.both-good.ensures c.good_from.ensures c.good_to.ensures ∙ c.if-not-good.false)
    (sym c.is_closed-closed.ensures ∙ c.if-closed.true)

pub returns-then-mid : goal.returns-then-mid
returns-then-mid c =
    may_mid _ _ (both_are _ _ _ _ _ c.both-good.ensures c.good_from.ensures c.good_to.ensures ∙ c.if-not-good.false)
    (sym c.is_closed-closed.ensures ∙ c.if-closed.false) (sym c.is_pending-mid.ensures ∙ c.if-mid.true)

pub returns-in_default : goal.returns-in_default
returns-in_default c =
    let a = c.args in
    let e = entries_with a.marks.now a.xs.now a.ys.now a.held.now a.inputs.now in
    let w = entries_with a.wmarks.now a.wxs.now a.wys.now a.wheld.now a.winputs.now in
    may_never _ _ (both_are _ _ _ _ _ c.both-good.ensures c.good_from.ensures c.good_to.ensures ∙ c.if-not-good.false)
    (sym c.is_closed-closed.ensures ∙ c.if-closed.false) (sym c.is_pending-mid.ensures ∙ c.if-mid.false)
    (ap (λ (t : Option ℤ). unreachable a.s e a.teams.now t w a.wteams.now) c.in_default.is)

pub returns-then-cant_reach : goal.returns-then-cant_reach
returns-then-cant_reach c =
    let a = c.args in
    let e = entries_with a.marks.now a.xs.now a.ys.now a.held.now a.inputs.now in
    let w = entries_with a.wmarks.now a.wxs.now a.wys.now a.wheld.now a.winputs.now in
    let u : to_z w32 (of_z w32 c.in-Some.u) ≡ c.in-Some.u = search rules in
    let t : a.tick ≡ Some (to_z w32 (of_z w32 c.in-Some.u)) = rw u c.in-Some.is in
    may_never _ _ (both_are _ _ _ _ _ c.both-good.ensures c.good_from.ensures c.good_to.ensures ∙ c.if-not-good.false)
    (sym c.is_closed-closed.ensures ∙ c.if-closed.false) (sym c.is_pending-mid.ensures ∙ c.if-mid.false)
    (unreachable_in a.s e a.teams.now a.tick w a.wteams.now _ _ t (c.cant_reach.ensures a.inputs.now a.winputs.now) ∙ c.if-cant_reach.true)

pub returns : goal.returns
returns c =
    let a = c.args in
    let e = entries_with a.marks.now a.xs.now a.ys.now a.held.now a.inputs.now in
    let w = entries_with a.wmarks.now a.wxs.now a.wys.now a.wheld.now a.winputs.now in
    let u : to_z w32 (of_z w32 c.in-Some.u) ≡ c.in-Some.u = search rules in
    let t : a.tick ≡ Some (to_z w32 (of_z w32 c.in-Some.u)) = rw u c.in-Some.is in (
      may_now _ _ (both_are _ _ _ _ _ c.both-good.ensures c.good_from.ensures c.good_to.ensures ∙ c.if-not-good.false)
          (sym c.is_closed-closed.ensures ∙ c.if-closed.false) (sym c.is_pending-mid.ensures ∙ c.if-mid.false)
          (unreachable_in a.s e a.teams.now a.tick w a.wteams.now _ _ t (c.cant_reach.ensures a.inputs.now a.winputs.now) ∙ c.if-cant_reach.false),
      t,
    )
