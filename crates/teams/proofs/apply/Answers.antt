-- `teams::apply` meets its contract. Assumes nothing.
use Rattle.std.specs.Prelude.{Some}
use mathlib.Core.Path.{◌≡◌, sym, ap, ◌∙◌}
use borrow.Author.Rules.{rules}
use mir.Syntax.{w32}
use mir.Val.{to_z, of_z}
use Rattle.state.specs.Views.{event_is}
use Rattle.teams.specs.Teams.{team_of, put_team}
use Rattle.teams.specs.steps.Joinings.{joining_is}
use Rattle.teams.proofs.Teams.{nobody_joins, somebody_joins}
use Rattle.teams.proofs.apply.Goals as goal

pub returns-in_default : goal.returns-in_default
returns-in_default c =
    let a = c.args in
    nobody_joins (event_is a.event) a.teams.now (sym (ap joining_is c.in_default.is) ∙ c.joining_of.ensures)

pub returns : goal.returns
returns c =
    let j = c.joining_of in
    let a = c.args in
    let t = a.teams.now in
    let cid : to_z w32 (of_z w32 c.in-Some.field-0.cid) ≡ c.in-Some.field-0.cid = search rules in
    let team : to_z w32 (of_z w32 c.in-Some.field-0.team) ≡ c.in-Some.field-0.team = search rules in
    let s = somebody_joins (event_is a.event) t c.in-Some.field-0.cid c.in-Some.field-0.team (sym (ap joining_is c.in-Some.is) ∙ j.ensures) in (
      c.team_of-former.ensures ∙ ap (team_of t) cid ∙ s.0,
      c.put_team.ensures ∙ (λ k. put_team t (cid k) (Some (team k))) ∙ s.1,
    )
