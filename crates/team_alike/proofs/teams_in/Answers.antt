-- `team_alike::teams_in` meets its contract. Assumes nothing.
use borrow.Author.Rules.{rules}
use mathlib.Core.Path.{◌≡◌, ◌∙◌}
use lib.Dec.{eqb}
use lib.ListN.{length}
use borrow.Author.Tests.{ne_eqb}
use mir.Syntax.{w32}
use mir.Val.{to_z, of_z}
use Rattle.state.proofs.Numbers.{picks_second}
use Rattle.team_alike.specs.TeamAlike.{teams_in}
use Rattle.team_alike.proofs.teams_in.Goals as goal

pub returns-then-s-eq0 : goal.returns-then-s-eq0
unfolding teams_in
returns-then-s-eq0 c = rw c.if-s-eq0.true

pub returns : goal.returns
unfolding teams_in
returns c =
    let number = c.number-2 in
    let mark = c.number in
    let number' : to_z w32 (of_z w32 number.result) ≡ number.result = search rules in
    let mark' : to_z w32 (of_z w32 mark.result) ≡ mark.result = search rules in
    let test = c in
    (rw (number', number.ensures, mark', mark.ensures, c.size.ensures.0, c.byte.ensures) at c.with_team.ensures)
    ∙ picks_second (eqb (length test.args.s.now) 0) _ _ (ne_eqb (length test.args.s.now) 0 test.if-s-eq0.false)
