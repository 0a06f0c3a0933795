-- `inputs::take_ten` meets its contract. Assumes nothing.
use Prim.Native.Nat.{ℕ, ◌+◌, ◌*◌, ◌/◌}
use mathlib.Core.Path.{◌≡◌, refl, sym, ◌∙◌}
use native.Mathlib.Omega.{arith}
use borrow.Author.Tests.{lt-ltb}
use lib.ListN.{get_or, length-set}
use lib.IntN.{ℤ, pos}
use Rattle.fields.specs.Views.{zeros}
use Rattle.state.specs.State.{ten_of}
use Rattle.state.proofs.Numbers.{element}
use Rattle.inputs.proofs.Tens.{each_at, turn, filled}
use Rattle.inputs.proofs.take_ten.Goals as goal

pub loop-k-preserved : goal.loop-k-preserved
unfolding ten_of
loop-k-preserved g c =
    let a = c.args in
    let l = c.loop-k in
    let test = c.loop-k-test.true in
    let f : ℕ → ℤ = λ k. get_or a.numbers.now (10 * a.p + k) (pos 0) in
    let x = element (f l.k) c.x-1.given ∙ sym (each_at f l.k test) in
    let e = turn (zeros 10) (ten_of a.numbers.now a.p) l.k l.t _ l.invariant.1 x test test in
    (length-set l.t l.k _ ∙ l.invariant.0, e)

pub returns : goal.returns
unfolding ten_of
returns g c =
    let a = c.args in
    let l = c.loop-k in
    let e : l.k ≡ 10 = omega arith in
    rw (lt-ltb a.p (g.row.N / 10) (omega arith)) (l.invariant.1 ∙ rw e (filled (zeros 10) (ten_of a.numbers.now a.p) refl refl))
