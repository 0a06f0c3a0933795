-- `reachable::differs_behind` meets its contract. Assumes nothing.
use mathlib.Core.Path.{◌≡◌, ap}
use mathlib.Core.Bool.{not}
use mathlib.Core.List.{[]}
use native.Mathlib.Omega.{arith}
use borrow.Author.Tests.{lt-ltb}
use mir.Syntax.{w32}
use mir.Facts.{to_z_pos}
use Rattle.state.proofs.Every.{none_yet, one_more, all_tested}
use Rattle.choice.specs.Reaching.{differs_behind}
use Rattle.reachable.proofs.differs_behind.Goals as goal
use Rattle.reachable.proofs.differs_behind.Invariants.{placed, stays}

pub loop-c-preserved : goal.loop-c-preserved
loop-c-preserved c =
    let a = c.args in
    let l = c.loop-c in
    let p = stays a.remembered (placed a.marks.now a.xs.now a.ys.now) (placed a.wmarks.now a.wxs.now a.wys.now) in
    let t : c.if_marked.result ≡ p l.c =
    rw (
      c.if_marked.ensures,
      c.at_or_below.ensures,
      to_z_pos w32 {n = l.c} (omega arith),
      c.same_player-same.ensures,
      c.player_at-in-loop-c.ensures [] [],
      c.player_at.ensures [] [],
      lt-ltb l.c 128 c.loop-c-test.true,
    ) in
    one_more p l.c _ _ _ t l.invariant c.both-all.ensures

pub returns : goal.returns
unfolding differs_behind
returns c held inputs wheld winputs = ap not (all_tested _ c.loop-c.invariant (omega arith))

pub loop-c-init : goal.loop-c-init
loop-c-init c = none_yet _
