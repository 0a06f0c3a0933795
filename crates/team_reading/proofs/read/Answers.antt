-- `team_reading::read` meets its contract. Assumes nothing.
use Rattle.arguments.proofs.Tests.{off, on}
use Rattle.team_reading.proofs.Calls.{read_bad, read_good}
use Rattle.team_reading.proofs.read.Goals as goal

pub returns-then-not-good_teams : goal.returns-then-not-good_teams
returns-then-not-good_teams c =
    let a = c.args in
    read_bad a.reader a.window.now a.last c.refused.result (off _ _ c.good_teams.ensures c.if-not-good_teams.true)
    c.refused.ensures

pub returns : goal.returns
returns c =
    let a = c.args in
    let t = c in
    read_good a.reader a.window.now a.last c.read-read.result _ c.apply_answer-former.result
    (on _ _ t.good_teams.ensures t.if-not-good_teams.false) c.read-read.ensures c.apply_answer-former.ensures
