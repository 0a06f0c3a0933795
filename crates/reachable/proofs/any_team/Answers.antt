-- `reachable::any_team` meets its contract. Assumes nothing.
use mathlib.Core.Path.{ap}
use mathlib.Core.Bool.{not}
use native.Mathlib.Omega.{arith}
use Rattle.state.proofs.Every.{none_yet, one_more, all_tested}
use Rattle.choice.specs.Reaching.{any_team}
use Rattle.reachable.proofs.any_team.Goals as goal
use Rattle.reachable.proofs.any_team.Invariants.{without}

pub loop-c-preserved : goal.loop-c-preserved
loop-c-preserved c =
    let t = c.args.teams.now in
    let l = c.loop-c in
    one_more (without t) l.c _ _ _ (ap not c.has_team.ensures) l.invariant c.both-none.ensures

pub returns : goal.returns
unfolding any_team
returns c = ap not (all_tested _ c.loop-c.invariant (omega arith))

pub loop-c-init : goal.loop-c-init
loop-c-init c = none_yet _
