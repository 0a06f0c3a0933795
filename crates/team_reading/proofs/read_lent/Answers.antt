-- `team_reading::read_lent` meets its contract. Assumes nothing.
use Rattle.arguments.proofs.Tests.{off, on}
use Rattle.team_reading.proofs.Calls.{lent_bad, lent_good}
use Rattle.team_reading.proofs.read_lent.Goals as goal

pub returns-then-not-good_teams : goal.returns-then-not-good_teams
returns-then-not-good_teams c =
    let a = c.args in
    let m = a.m.now in
    lent_bad a.scalars m a.teams.now a.w.now a.last (off _ _ c.good_teams.ensures c.if-not-good_teams.true)

pub returns : goal.returns
returns c =
    let t = c in
    let a = t.args in
    let m = a.m.now in
    lent_good a.scalars m a.teams.now a.w.now a.last c.read_plain-outcome.result _ _ c.apply_answer-team.result
    (on _ _ t.good_teams.ensures t.if-not-good_teams.false) c.read_plain-outcome.ensures c.apply_answer-team.ensures
