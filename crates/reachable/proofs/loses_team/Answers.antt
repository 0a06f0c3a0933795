-- `reachable::loses_team` meets its contract. Assumes nothing.
use mathlib.Core.Path.{◌≡◌, ap}
use mathlib.Core.Bool.{not}
use native.Mathlib.Omega.{arith}
use Rattle.state.proofs.Every.{none_yet, one_more, all_tested}
use Rattle.choice.specs.Reaching.{loses_team}
use Rattle.reachable.proofs.loses_team.Goals as goal
use Rattle.reachable.proofs.loses_team.Invariants.{keeps}

pub loop-c-preserved : goal.loop-c-preserved
loop-c-preserved c =
    let n = c in
    let a = n.args in
    let l = n.loop-c in
    let p = keeps a.teams.now a.wanted.now in
    let t : c.if_marked.result ≡ p l.c =
    rw (c.if_marked.ensures, n.has_team.ensures, c.has_team-in-loop-c.ensures) in
    one_more p l.c _ _ _ t l.invariant c.both-all.ensures

pub returns : goal.returns
unfolding loses_team
returns c = ap not (all_tested _ c.loop-c.invariant (omega arith))

pub loop-c-init : goal.loop-c-init
loop-c-init c = none_yet _
