-- `reachable::loses_input` meets its contract. Assumes nothing.
use mathlib.Core.Path.{◌≡◌, ap}
use mathlib.Core.Bool.{not}
use native.Mathlib.Omega.{arith}
use borrow.Author.Tests.{lt-ltb}
use Rattle.state.proofs.Every.{none_yet, one_more, all_tested}
use Rattle.choice.specs.Reaching.{loses_input}
use Rattle.reachable.proofs.loses_input.Goals as goal
use Rattle.reachable.proofs.loses_input.Invariants.{keeps}

pub loop-c-preserved : goal.loop-c-preserved
loop-c-preserved c =
    let a = c.args in
    let l = c.loop-c in
    let p = keeps a.held.now a.wanted.now in
    let t : c.if_marked.result ≡ p l.c =
    rw (c.if_marked.ensures, lt-ltb l.c 128 c.loop-c-test.true) in
    one_more p l.c _ _ _ t l.invariant c.both-all.ensures

pub returns : goal.returns
unfolding loses_input
returns c marks xs ys inputs wmarks wxs wys winputs = ap not (all_tested _ c.loop-c.invariant (omega arith))

pub loop-c-init : goal.loop-c-init
loop-c-init c = none_yet _
