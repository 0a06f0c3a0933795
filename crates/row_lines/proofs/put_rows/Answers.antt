-- `row_lines::put_rows` meets its contract. The loop's invariant: of the events of which the rows tell, the lines still to come, put at the
-- place, make of the target what all lines make of it. Assumes nothing.
use borrow.Author.Rules.{rules}
use Rattle.row_lines.proofs.Onward.{onward, done}
use Rattle.row_lines.proofs.put_rows.Goals as goal

pub loop-i-preserved : goal.loop-i-preserved
loop-i-preserved c =
    let p = c in
    let t = p in
    let l = t.loop-i in
    let a = t.args in (
      search rules,
      λ xs e told h.
          onward a.rows.now a.tens.now xs a.count a.out.now l.i l.at l.out h l.invariant.0 t.loop-i-test.true _ _
          p.put_row-at.ensures (l.invariant.1 xs e told h),
    )

pub returns : goal.returns
returns c xs e rows tens told h =
    let l = c.loop-i in
    let a = c.args in
    done a.rows.now a.tens.now xs a.count a.out.now l.i l.at l.out h l.invariant.0 c.loop-i-test.false (l.invariant.1 xs e told h)
