-- `feed::shift` meets its contract. Assumes nothing.
use Prim.Native.Nat.{ℕ, ◌+◌}
use mathlib.Core.Path.{◌≡◌, sym, ◌∙◌, ap}
use mathlib.Core.List.{List}
use native.Mathlib.Omega.{arith}
use native.Mathlib.Numerals.{add-one}
use lib.ListN.{set, get_or, length-set}
use lib.Seq.{slice, length-slice}
use Rattle.feed.proofs.Fed.{moved, one_more, ahead}
use Rattle.feed.proofs.shift.Goals as goal

pub loop-i-preserved : goal.loop-i-preserved
loop-i-preserved c =
    let s = c in
    let a = s.args in
    let l = c.loop-i in
    let d = a.buf.now in
    let w = slice a.at a.end d in
    let n = length-slice a.at a.end d s.requires.1 in
    let e : set l.buf l.i (get_or l.buf (a.at + l.i) 0) ≡ moved d w (l.i + 1) =
    ap (λ (b : List ℕ). set b l.i (get_or b (a.at + l.i) 0)) l.invariant.1
    ∙ ap (set (moved d w l.i) l.i) (ahead d a.at a.end l.i (omega arith) s.requires.1)
    ∙ one_more d w l.i (omega arith) (omega arith) ∙ ap (moved d w) (sym (add-one l.i)) in
    (length-set l.buf l.i _ ∙ l.invariant.0, e)
