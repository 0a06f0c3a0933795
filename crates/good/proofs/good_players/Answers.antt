-- `good::good_players` meets its contract. Assumes nothing.
use mathlib.Core.Path.{◌≡◌}
use native.Mathlib.Omega.{arith}
use lib.ListN.{get_or}
use lib.IntN.{pos}
use Rattle.state.specs.State.{good_players}
use Rattle.state.specs.steps.Parts.{good_player}
use Rattle.state.proofs.Numbers.{element}
use Rattle.state.proofs.Every.{none_yet, one_more, all_tested}
use Rattle.good.proofs.good_players.Goals as goal

pub loop-i-preserved : goal.loop-i-preserved
loop-i-preserved c =
    let a = c.args in
    let l = c.loop-i in
    let p = good_player a.marks.now a.xs.now a.ys.now in
    let x = element (get_or a.xs.now l.i (pos 0)) c.x-1.given in
    let y = element (get_or a.ys.now l.i (pos 0)) c.y-1.given in
    let t : c.good_entry.result ≡ p l.i =
    rw (c.good_entry.ensures, c.both.ensures, c.is_zero-in-loop-i.ensures, c.is_zero.ensures, x, y)
    in
    one_more p l.i _ _ _ t l.invariant c.both-good.ensures

pub returns : goal.returns
unfolding good_players
returns c = all_tested _ c.loop-i.invariant (omega arith)

pub loop-i-init : goal.loop-i-init
loop-i-init c = none_yet _
