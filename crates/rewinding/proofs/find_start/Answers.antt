-- `rewinding::find_start` meets its contract. Assumes nothing.
use mathlib.Core.Path.{sym, ◌∙◌}
use native.Mathlib.Omega.{arith}
use borrow.Author.Rules.{rules}
use Rattle.back.proofs.Cases.{Same}
use Rattle.reel.specs.Reel.{reel_of}
use Rattle.rewinding.proofs.Search.{none_yet, here, not_here, all_passed}
use Rattle.rewinding.proofs.Steps.{before_below}
use Rattle.rewinding.proofs.find_start.Goals as goal

pub loop-n-init : goal.loop-n-init
loop-n-init c =
    let a = c.args in
    let t : Same a.tick = search rules in
    (c.requires.0, λ inputs formers. rw t (none_yet a.tick (reel_of a.counts a.rows.now inputs formers)))

pub returns-then-is_start : goal.returns-then-is_start
returns-then-is_start c =
    let a = c.args in
    let t : Same a.tick = search rules in
    let l = c.loop-n in
    let is = sym (rw (c.place_before-place.ensures, t) at c.is_start.ensures) ∙ c.if-is_start.true in
    λ inputs formers.
    here a.tick (reel_of a.counts a.rows.now inputs formers) l.n a.counts.count l.place (omega arith) is ∙ sym (rw t at (l.invariant.1 inputs formers))

pub loop-n-preserved : goal.loop-n-preserved
loop-n-preserved c =
    let a = c.args in
    let t : Same a.tick = search rules in
    let l = c.loop-n in
    let p = c.place_before-place in
    let e = sym (rw (p.ensures, t) at c.is_start.ensures) ∙ c.if-is_start.false in (
      rw p.ensures (before_below l.place l.invariant.0),
      λ inputs formers.
          rw (t, p.ensures)
          ((rw t at (l.invariant.1 inputs formers))
          ∙ not_here a.tick (reel_of a.counts a.rows.now inputs formers) l.n a.counts.count l.place (omega arith) e),
    )

pub returns : goal.returns
returns c =
    let a = c.args in
    let t : Same a.tick = search rules in
    let l = c.loop-n in
    λ inputs formers.
    all_passed a.tick (reel_of a.counts a.rows.now inputs formers) l.n a.counts.count l.place (omega arith) ∙ sym (rw t at (l.invariant.1 inputs formers))
