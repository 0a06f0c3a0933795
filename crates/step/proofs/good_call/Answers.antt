-- `step::good_call` meets its contract. Assumes nothing.
use mathlib.Core.Path.{sym, ap, ◌∙◌}
use Rattle.state.specs.Reading.{is_closed, good_call}
use Rattle.state.specs.Slim.{slim_step}
use Rattle.state.proofs.Numbers.{picks_first, picks_second}
use Rattle.step.proofs.good_call.Goals as goal

pub returns-then-is_closed : goal.returns-then-is_closed
unfolding good_call
returns-then-is_closed c =
    let s = c.args.s in
    ap slim_step (picks_first (is_closed s.standing) _ _ (sym c.is_closed.ensures ∙ c.if-is_closed.true))

pub returns : goal.returns
unfolding good_call
returns c =
    let b = c in
    let s = b.args.s in
    c.open_call.ensures ∙ ap slim_step (picks_second (is_closed s.standing) _ _ (sym b.is_closed.ensures ∙ b.if-is_closed.false))
