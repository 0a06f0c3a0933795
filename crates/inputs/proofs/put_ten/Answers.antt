-- `inputs::put_ten` meets its contract. Assumes nothing.
use Prim.Native.Nat.{◌/◌}
use mathlib.Core.Path.{◌≡◌}
use native.Mathlib.Omega.{arith}
use borrow.Author.Tests.{lt-ltb}
use lib.ListN.{get_or}
use lib.IntN.{pos}
use Rattle.state.specs.State.{put_ten}
use Rattle.state.proofs.Numbers.{element}
use Rattle.inputs.proofs.Tens.{put_turn}
use Rattle.inputs.proofs.put_ten.Goals as goal

pub loop-k-preserved : goal.loop-k-preserved
loop-k-preserved g c =
    let a = c.args in
    let l = c.loop-k in
    let x = element (get_or a.t l.k (pos 0)) c.x-1.given in
    put_turn a.numbers.now a.p a.t l.k l.numbers _ l.invariant x c.loop-k-test.true

pub returns : goal.returns
unfolding put_ten
returns g c =
    let a = c.args in
    let l = c.loop-k in
    let e : l.k ≡ 10 = omega arith in
    rw (lt-ltb a.p (g.row.N / 10) (omega arith)) (rw e at l.invariant)
