-- `ticks::player_rule` meets its contract. Assumes nothing.
use Rattle.std.specs.Prelude.{Some, None}
use mathlib.Core.Path.{◌≡◌, sym, ap, ◌∙◌}
use mir.Syntax.{w32}
use mir.Val.{to_z, of_z}
use Rattle.state.specs.Reading.{next_tick}
use Rattle.state.specs.steps.Parts.{ends_at}
use Rattle.state.proofs.Numbers.{back}
use Rattle.ticks.proofs.Cases.{rule_outside, rule_nobody, rule_above, rule_again}
use borrow.Author.Rules.{rules}
use Rattle.ticks.proofs.player_rule.Goals as goal

pub returns-then-not-s : goal.returns-then-not-s
returns-then-not-s c = rule_outside c.args.s c.args.cid c.if-not-s.true

pub returns-in_default : goal.returns-in_default
returns-in_default c =
    rule_nobody c.args.s c.args.cid c.if-not-s.false c.in_default.is

pub returns-then-p-cid : goal.returns-then-p-cid
returns-then-p-cid c =
    let st = c in
    let p : to_z w32 (of_z w32 c.in-Some.p) ≡ c.in-Some.p = search rules in
    let t = rw (p, back st.args.cid st.ranges.cid) at c.if-p-cid.true in
    rule_above st.args.s st.args.cid c.in-Some.p c.if-not-s.false c.in-Some.is t

pub returns-in_default-next_tick : goal.returns-in_default-next_tick
returns-in_default-next_tick c =
    let st = c in
    let p : to_z w32 (of_z w32 c.in-Some.p) ≡ c.in-Some.p = search rules in
    let k : to_z w32 (of_z w32 st.args.s.tick) ≡ st.args.s.tick = search rules in
    let t = rw (p, back st.args.cid st.ranges.cid) at c.if-p-cid.false in
    let n : None ≡ next_tick st.args.s.tick 0 = sym c.in_default-next_tick.is ∙ (rw k at c.next_tick.ensures) in
    ap ends_at n ∙ rule_again st.args.s st.args.cid c.in-Some.p c.if-not-s.false c.in-Some.is t

pub returns : goal.returns
returns c =
    let st = c in
    let p : to_z w32 (of_z w32 c.in-Some.p) ≡ c.in-Some.p = search rules in
    let k : to_z w32 (of_z w32 st.args.s.tick) ≡ st.args.s.tick = search rules in
    let t = rw (p, back st.args.cid st.ranges.cid) at c.if-p-cid.false in
    let u : to_z w32 (of_z w32 c.in-Some-next_tick.t) ≡ c.in-Some-next_tick.t = search rules in
    let n : Some c.in-Some-next_tick.t ≡ next_tick st.args.s.tick 0 = sym c.in-Some-next_tick.is ∙ (rw k at c.next_tick.ensures) in
    rw u
    (ap ends_at n
    ∙ rule_again st.args.s st.args.cid c.in-Some.p c.if-not-s.false c.in-Some.is t)
