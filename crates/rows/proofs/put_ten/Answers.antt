-- `rows::put_ten` meets its contract. Assumes nothing.
use Prim.Native.Nat.{◌+◌}
use mathlib.Core.Path.{◌≡◌, sym, ap, ◌∙◌}
use native.Mathlib.Omega.{arith}
use native.Mathlib.Numerals.{add-one}
use lib.ListN.{length, get_or, set, length-set}
use lib.Seq.{paste, paste-suc}
use lib.IntN.{pos}
use mir.Syntax.{w32}
use mir.Val.{to_z, of_z}
use borrow.Author.Rules.{rules}
use Rattle.state.proofs.Numbers.{element}
use Rattle.rows.proofs.Puts.{put_pasted}
use Rattle.rows.proofs.put_ten.Goals as goal

pub loop-k-preserved : goal.loop-k-preserved
loop-k-preserved c =
    let a = c.args in
    let l = c.loop-k in
    let h : length a.ten ≡ 10 = search rules in
    let x = element (get_or a.ten l.k (pos 0)) c.x-1.given in
    let e : set l.tens (a.at + l.k) (to_z w32 (of_z w32 (get_or a.ten l.k (pos 0)))) ≡ paste a.tens.now a.at a.ten (l.k + 1) =
    (λ i. set (l.invariant.1 i) (a.at + l.k) (x i))
    ∙ paste-suc a.tens.now a.at a.ten l.k (pos 0) (omega arith) (omega arith)
    ∙ ap (paste a.tens.now a.at a.ten) (sym (add-one l.k)) in
    (length-set l.tens (a.at + l.k) _ ∙ l.invariant.0, e)

pub returns : goal.returns
returns c =
    let a = c.args in
    let l = c.loop-k in
    let h : length a.ten ≡ 10 = search rules in
    let e : l.k ≡ 10 = omega arith in
    l.invariant.1 ∙ rw e (put_pasted a.tens.now a.at 10 a.ten h)
