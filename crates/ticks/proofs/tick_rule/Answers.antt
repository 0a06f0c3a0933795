-- `ticks::tick_rule` meets its contract. Assumes nothing.
use mathlib.Core.Path.{◌≡◌}
use native.Mathlib.Omega.{arith}
use mir.Syntax.{w32}
use mir.Val.{to_z, of_z}
use Rattle.state.specs.Reading.{tick_rule}
use borrow.Author.Rules.{rules}
use Rattle.ticks.proofs.tick_rule.Goals as goal

pub returns-in-PlayerDiff : goal.returns-in-PlayerDiff
unfolding tick_rule
returns-in-PlayerDiff c =
    let u : to_z w32 (of_z w32 c.in-PlayerDiff.cid) ≡ c.in-PlayerDiff.cid = search rules in
    rw c.in-PlayerDiff.is (rw u at c.player_rule.ensures)

pub returns-in-PlayerNew : goal.returns-in-PlayerNew
unfolding tick_rule
returns-in-PlayerNew c =
    let u : to_z w32 (of_z w32 c.in-PlayerNew.cid) ≡ c.in-PlayerNew.cid = search rules in
    rw c.in-PlayerNew.is (rw u at c.player_rule-in-PlayerNew.ensures)

pub returns-in-PlayerOld : goal.returns-in-PlayerOld
unfolding tick_rule
returns-in-PlayerOld c =
    let u : to_z w32 (of_z w32 c.in-PlayerOld.cid) ≡ c.in-PlayerOld.cid = search rules in
    rw c.in-PlayerOld.is (rw u at c.player_rule-in-PlayerOld.ensures)

pub returns-then-s : goal.returns-then-s
unfolding tick_rule
returns-then-s c =
    rw (c.in-Finish.is, c.if-s.true)

pub returns-else-s : goal.returns-else-s
unfolding tick_rule
returns-else-s c =
    rw (c.in-Finish.is, c.if-s.false)

pub returns-in-TickSkip : goal.returns-in-TickSkip
unfolding tick_rule
returns-in-TickSkip c =
    rw c.in-TickSkip.is

pub returns-in_default : goal.returns-in_default
unfolding tick_rule
returns-in_default c = grind arith
