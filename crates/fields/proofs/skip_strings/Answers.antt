use Rattle.std.proofs.Common.{◌+◌, arith, sym, ◌∙◌}
use lib.ListN.{drop}
use Rattle.fields.proofs.Passed.{pass_start, pass_done, pass_out, pass_byte, pass_one, pass_many}
use Rattle.fields.proofs.skip_strings.Goals as goal
use Rattle.fields.proofs.skip_strings.Goals.{then-s-i-eq0+else-passed-eq16+else-passed-n, else-s-i-eq0}

pub returns-then-n-eq0 : goal.returns-then-n-eq0
returns-then-n-eq0 c =
    let a = c.args in
    sym (pass_start a.s.now a.n a.at ∙ pass_done (drop a.at a.s.now) a.n 0 a.at (omega (arith, c.if-n-eq0.true)))

pub loop-i-init : goal.loop-i-init
loop-i-init c = let a = c.args in (omega arith, (omega (arith, c.if-n-eq0.false), pass_start a.s.now a.n a.at))

pub returns-then-passed-eq16 : goal.returns-then-passed-eq16
returns-then-passed-eq16 c =
    let l = c.loop-i in
    let a = c.args in
    sym (l.invariant.1.1 ∙ pass_many a.s.now a.n l.passed l.i l.invariant.1.0 c.loop-i-test.true c.if-s-i-eq0.true c.if-passed-eq16.true)

pub returns-then-passed-n : goal.returns-then-passed-n
returns-then-passed-n c =
    let l = c.loop-i in
    let a = c.args in
    sym
    (l.invariant.1.1
    ∙ pass_one a.s.now a.n l.passed l.i l.invariant.1.0 c.loop-i-test.true c.if-s-i-eq0.true c.if-passed-eq16.false
    ∙ pass_done (drop (l.i + 1) a.s.now) a.n (l.passed + 1) (l.i + 1) (omega (arith, c.if-passed-n.true)))

pub loop-i-preserved : goal.loop-i-preserved
loop-i-preserved c =
    let l = c.loop-i in
    let a = c.args in
    let inside = c.loop-i-test.true in
    elim c.if-s-i-eq0.branch [
      | then-s-i-eq0+else-passed-eq16+else-passed-n w ↦ rw w.passed-is
          (omega (arith, l.invariant.0, w.if-passed-eq16.false), (omega (arith, l.invariant.1.0, w.if-passed-n.false), l.invariant.1.1 ∙ pass_one a.s.now a.n l.passed l.i l.invariant.1.0 inside w.if-s-i-eq0.true w.if-passed-eq16.false))
      | else-s-i-eq0 w ↦ rw w.passed-is
          (l.invariant.0, (l.invariant.1.0, l.invariant.1.1 ∙ pass_byte a.s.now a.n l.passed l.i l.invariant.1.0 inside w.if-s-i-eq0.false))
    ]

pub returns : goal.returns
returns c =
    let l = c.loop-i in
    let a = c.args in
    sym (l.invariant.1.1 ∙ pass_out a.s.now a.n l.passed l.i l.invariant.1.0 (omega (arith, c.loop-i-test.false)))
