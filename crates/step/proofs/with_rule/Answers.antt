-- `step::with_rule` meets its contract. Assumes nothing.
use mathlib.Core.Path.{◌≡◌, sym, ◌∙◌}
use mir.Syntax.{w32}
use mir.Val.{to_z, of_z}
use Rattle.rests.proofs.Slim.{slim_calm, calm_refusal}
use Rattle.refusal.specs.declared.Refusal.TheVariants.{TickOverflow}
use borrow.Author.Rules.{rules}
use Rattle.step.proofs.with_rule.Goals as goal
use Rattle.step.proofs.with_rule.Goals.{After-gave, After-gave-in-Ends, After-gave-in-EndsHere}

tick : (c : After-gave-in-Ends) → to_z w32 (of_z w32 c.args.s.tick) ≡ c.args.s.tick
tick c = search rules

pub returns-in-Ends : goal.returns-in-Ends
returns-in-Ends c =
    let st = c in
    let u : to_z w32 (of_z w32 c.in-Ends.t) ≡ c.in-Ends.t = search rules in
    rw c.in-Ends.is (rw (c.ended.ensures, tick st, u) at (c.gave-in-Ends.ensures c.args.m.now))

tick_2 : (c : After-gave) → to_z w32 (of_z w32 c.args.s.tick) ≡ c.args.s.tick
tick_2 c = search rules

pub returns-in-Starts : goal.returns-in-Starts
returns-in-Starts c =
    let st = c in
    rw c.in-Starts.is (rw (c.started.ensures, tick_2 st) at (c.gave.ensures c.args.m.now))

tick_3 : (c : After-gave-in-EndsHere) → to_z w32 (of_z w32 c.args.s.tick) ≡ c.args.s.tick
tick_3 c = search rules

pub returns-in-EndsHere : goal.returns-in-EndsHere
returns-in-EndsHere c =
    let st = c in
    rw c.in-EndsHere.is (rw (c.ended-in-EndsHere.ensures, tick_3 st) at (c.gave-in-EndsHere.ensures c.args.m.now))

pub returns-in-Over : goal.returns-in-Over
returns-in-Over c =
    let st = c in
    rw c.in-Over.is (c.refuse.ensures c.args.m.now ∙ sym (slim_calm _ (calm_refusal TickOverflow st.args.s c.args.m.now)))
