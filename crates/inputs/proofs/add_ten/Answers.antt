-- `inputs::add_ten` meets its contract. Assumes nothing.
use Prim.Native.Nat.{ℕ}
use mathlib.Core.Path.{◌≡◌, refl, sym, ◌∙◌}
use native.Mathlib.Omega.{arith}
use lib.ListN.{get_or, length-set}
use lib.IntN.{ℤ, pos, ◌+ℤ◌}
use mir.Syntax.{w32}
use mir.Val.{SFits}
use Rattle.num.specs.Wrap.{wrap32}
use Rattle.fields.specs.Views.{zeros}
use Rattle.state.specs.Reading.{sums}
use Rattle.state.proofs.Numbers.{added}
use Rattle.inputs.proofs.Tens.{each_at, turn, filled}
use Rattle.inputs.proofs.add_ten.Goals as goal

pub loop-k-preserved : goal.loop-k-preserved
unfolding sums
loop-k-preserved c =
    let a = c.args in
    let l = c.loop-k in
    let test = c.loop-k-test.true in
    let f = get_or a.f l.k (pos 0) in
    let d = get_or a.d l.k (pos 0) in
    let g : ℕ → ℤ = λ k. wrap32 (get_or a.f k (pos 0) +ℤ get_or a.d k (pos 0)) in
    let ff : SFits w32 f = record { sfits = c.wrapping_add-arg-1.given } in
    let fd : SFits w32 d = record { sfits = c.wrapping_add-arg-in-loop-k-1.given } in
    let x = added f d _ ff fd c.wrapping_add-x.ensures.fits_signed c.wrapping_add-x.ensures.value in
    let e = turn (zeros 10) (sums a.f a.d) l.k l.t _ l.invariant.1 (x ∙ sym (each_at g l.k test)) test test in
    (length-set l.t l.k _ ∙ l.invariant.0, e)

pub returns : goal.returns
unfolding sums
returns c =
    let a = c.args in
    let l = c.loop-k in
    let e : l.k ≡ 10 = omega arith in
    l.invariant.1 ∙ rw e (filled (zeros 10) (sums a.f a.d) refl refl)
