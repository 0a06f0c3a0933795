-- `result_lines::put_number` meets its contract. The loop's invariant: the bytes from a place on are the last digits and the line's end.
-- Assumes nothing.
use native.Mathlib.Omega.{arith}
use Rattle.lines.specs.Lines.{decimal_digits, newline}
use Rattle.result_lines.proofs.Number.{one_more, first_one, number_le}
use Rattle.row_lines.proofs.Puts.{raw_put}
use Rattle.result_lines.proofs.put_number.Goals as goal

pub loop-left-preserved : goal.loop-left-preserved
loop-left-preserved c =
    let l = c.loop-left in
    one_more _ l.bytes l.from l.left l.invariant c.loop-left-test.true

pub returns : goal.returns
returns c =
    let l = c.loop-left in
    let a = c.args in
    let e = rw (first_one a.n l.bytes l.from l.left l.invariant c.loop-left-test.false) at c.write_raw.ensures in
    raw_put a.out.now a.at (decimal_digits 20 a.n newline) _ _ c.past_or.ensures _ (omega (arith, c.requires, number_le a.n)) e.answer e.target
