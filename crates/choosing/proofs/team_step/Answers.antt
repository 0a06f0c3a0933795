-- `choosing::team_step` meets its contract. Assumes nothing.
use mathlib.Core.Path.{◌≡◌, sym, ◌∙◌}
use mir.Syntax.{w32}
use mir.Val.{to_z, of_z}
use borrow.Author.Rules.{rules, sfits_of}
use Rattle.state.proofs.Numbers.{back}
use Rattle.choosing.proofs.Forms.{none_chosen}
use Rattle.choosing.proofs.Places.{team_same, team_none, team_new}
use Rattle.choosing.proofs.team_step.Goals as goal

pub returns-then-same_team : goal.returns-then-same_team
returns-then-same_team c v h =
    let a = c.args in
    team_same a.c a.m a.n _ v (sym c.same_team.ensures ∙ c.if-same_team.true) none_chosen

pub returns-in_default : goal.returns-in_default
returns-in_default c v h =
    let n = c in
    let a = n.args in
    team_none a.c a.m a.n _ v (sym n.same_team.ensures ∙ n.if-same_team.false) c.in_default.is none_chosen

pub returns : goal.returns
returns c v h =
    let n = c in
    let a = n.args in
    let k : to_z w32 (of_z w32 c.in-Some.team) ≡ c.in-Some.team = search rules in
    team_new a.c a.m a.n _ v (sym n.same_team.ensures ∙ n.if-same_team.false) c.in-Some.team c.in-Some.is h _ _
    (back c.number.result (sfits_of c.number.type_inv) ∙ c.number.ensures)
    k
    c.plain.ensures
