-- `ticks::tick_skip` meets its contract. Assumes nothing.
use Rattle.std.specs.Prelude.{Some, None}
use mathlib.Core.Path.{◌≡◌, sym, ap, ◌∙◌}
use mir.Syntax.{w32}
use mir.Val.{to_z, of_z}
use Rattle.state.specs.Reading.{next_tick, tick_skip}
use Rattle.state.specs.steps.Parts.{skipped}
use Rattle.state.proofs.Numbers.{Kept}
use Rattle.ticks.proofs.Cases.{skip_inside, skip_outside}
use borrow.Author.Rules.{rules}
use Rattle.ticks.proofs.tick_skip.Goals as goal
use Rattle.ticks.proofs.tick_skip.Goals.{After-gave, After-gave-2}

pub returns-in_default : goal.returns-in_default
unfolding tick_skip
returns-in_default c m =
    let a = c.args in
    let k : to_z w32 (of_z w32 a.s.tick) ≡ a.s.tick = search rules in
    let n : None ≡ next_tick a.s.tick a.dt = sym c.in_default.is ∙ (rw k at c.next_tick.ensures) in
    c.refuse.ensures m ∙ ap (skipped a.s m a.used) n

-- the tick that a skip goes to
to : (c : After-gave)
    → (let a = c.args in Some c.in-Some.t ≡ next_tick a.s.tick a.dt)
to c =
    let k : Kept c.args.s = search rules in
    sym c.in-Some.is ∙ (rw k.tick at c.next_tick.ensures)

pub returns-then-s : goal.returns-then-s
unfolding tick_skip
returns-then-s c m =
    let a = c.args in
    let k : to_z w32 (of_z w32 a.s.tick) ≡ a.s.tick = search rules in
    let u : to_z w32 (of_z w32 c.in-Some.t) ≡ c.in-Some.t = search rules in
    rw (k, c.skipped_to.ensures, u) at (c.gave.ensures m)
    ∙ skip_inside a.s m a.used c.in-Some.t c.if-s.true
    ∙ ap (skipped a.s m a.used) (to c)

-- the tick that a skip goes to
to_2 : (c : After-gave-2)
    → (let a = c.args in Some c.in-Some.t ≡ next_tick a.s.tick a.dt)
to_2 c =
    let k : Kept c.args.s = search rules in
    sym c.in-Some.is ∙ (rw k.tick at c.next_tick.ensures)

pub returns : goal.returns
unfolding tick_skip
returns c m =
    let a = c.args in
    let u : to_z w32 (of_z w32 c.in-Some.t) ≡ c.in-Some.t = search rules in
    rw (c.skipped_to-2.ensures, u) at (c.gave-2.ensures m)
    ∙ skip_outside a.s m a.used c.in-Some.t c.if-s.false
    ∙ ap (skipped a.s m a.used) (to_2 c)
