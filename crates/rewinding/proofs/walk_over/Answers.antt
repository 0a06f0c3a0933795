-- `rewinding::walk_over` meets its contract. Assumes nothing.
use mathlib.Core.Path.{◌≡◌, ◌∙◌}
use native.Mathlib.Omega.{arith}
use borrow.Author.Tests.{not-true, not-false}
use Rattle.reel.specs.Reel.{reel_of}
use Rattle.rewinding.proofs.Steps.{before_below, took, fitted, unfitted, none_left}
use Rattle.rewinding.proofs.walk_over.Goals as goal

pub returns-then-not-off : goal.returns-then-not-off
returns-then-not-off c =
    let a = c.args in
    let l = c.loop-k in
    let p = c.place_before-q in
    λ counts.
    unfitted (reel_of counts a.rows.now a.tens.now a.formers.now) a.n l.k l.p c.loop-k-test.true _ _
    (took (reel_of counts a.rows.now a.tens.now a.formers.now) l.p p.result l.invariant.0 p.ensures _ _ _ _ _ _
    c.ten_at.ensures c.undo_in-undo.ensures c.ten_at-ten.ensures c.ten_at-old.ensures c.take_off_team-off.ensures)
    (not-true _ c.if-not-off.true)
    ∙ l.invariant.1 counts

pub loop-k-preserved : goal.loop-k-preserved
loop-k-preserved c =
    let a = c.args in
    let l = c.loop-k in
    let p = c.place_before-q in
    let e = p.ensures in (
      rw e (before_below l.p l.invariant.0),
      λ counts.
          rw e
          (fitted (reel_of counts a.rows.now a.tens.now a.formers.now) a.n l.k l.p c.loop-k-test.true _ _
          (took (reel_of counts a.rows.now a.tens.now a.formers.now) l.p p.result l.invariant.0 p.ensures _ _ _ _ _ _
          c.ten_at.ensures c.undo_in-undo.ensures c.ten_at-ten.ensures c.ten_at-old.ensures c.take_off_team-off.ensures)
          (not-false _ c.if-not-off.false)
          ∙ l.invariant.1 counts),
    )

pub returns : goal.returns
returns c =
    let a = c.args in
    let l = c.loop-k in
    λ counts.
    let e : l.k ≡ a.n = omega arith in
    none_left (reel_of counts a.rows.now a.tens.now a.formers.now) a.n a.n l.p (omega arith) _ ∙ (rw e at l.invariant.1 counts)
