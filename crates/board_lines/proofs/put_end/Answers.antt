-- `board_lines::put_end` meets its contract. Assumes nothing.
use native.Mathlib.Omega.{arith}
use Rattle.lines.specs.Lines.{text}
use Rattle.row_lines.proofs.Puts.{raw_put}
use Rattle.board_lines.proofs.put_end.Goals as goal

pub returns-in-Ended : goal.returns-in-Ended
returns-in-Ended c =
    let w = c in
    let g = w in
    let s = g in
    let a = s.args in
    rw g.in-Ended.is
    (raw_put a.out.now a.at (text "ended\n") _ _ c.past_or.ensures _ (omega (arith, s.requires)) w.write_raw.ensures.answer
    w.write_raw.ensures.target)

pub returns-in-Going : goal.returns-in-Going
returns-in-Going c =
    let w = c in
    let g = w in
    let s = g in
    let a = s.args in
    rw g.in-Going.is
    (raw_put a.out.now a.at (text "going\n") _ _ c.past_or-in-Going.ensures _ (omega (arith, s.requires)) w.write_raw-in-Going.ensures.answer
    w.write_raw-in-Going.ensures.target)
