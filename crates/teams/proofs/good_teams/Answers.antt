-- `teams::good_teams` meets its contract. Assumes nothing.
use mathlib.Core.Path.{◌≡◌, refl}
use native.Mathlib.Omega.{arith}
use Rattle.state.proofs.Numbers.{element}
use Rattle.state.proofs.Every.{none_yet, one_more, all_tested}
use Rattle.teams.specs.Teams.{mark_of, number_of, good_teams}
use Rattle.teams.proofs.good_teams.Goals as goal
use Rattle.teams.proofs.good_teams.Invariants.{good_at}

pub loop-i-preserved : goal.loop-i-preserved
loop-i-preserved c =
    let t = c.args.teams.now in
    let l = c.loop-i in
    let m = element (mark_of t l.i) c.mark-1.given in
    let n = element (number_of t l.i) c.number-1.given in
    let e : c.good_team-good.result ≡ good_at t l.i = rw (c.good_team-good.ensures, m, n) in
    one_more (good_at t) l.i _ _ _ e l.invariant refl

pub returns : goal.returns
unfolding good_teams
returns c = all_tested _ c.loop-i.invariant (omega arith)

pub loop-i-init : goal.loop-i-init
loop-i-init c = none_yet _
