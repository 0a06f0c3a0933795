-- `board_lines::put_tick` meets its contract. Assumes nothing.
use native.Mathlib.Omega.{arith}
use Rattle.lines.specs.Lines.{text}
use Rattle.row_lines.proofs.Puts.{raw_put}
use Rattle.board_lines.proofs.put_tick.Goals as goal

pub returns-in-None : goal.returns-in-None
returns-in-None c =
    let w = c in
    let g = w in
    let s = g in
    let a = s.args in
    rw g.in-None.is
    (raw_put a.out.now a.at (text "board -\n") _ _ c.past_or-in-None.ensures _ (omega (arith, s.requires)) w.write_raw.ensures.answer
    w.write_raw.ensures.target)
