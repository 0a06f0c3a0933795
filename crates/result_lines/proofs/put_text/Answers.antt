-- `result_lines::put_text` meets its contract. Assumes nothing.
use Prim.Native.Nat.{◌≤◌}
use native.Mathlib.Omega.{arith}
use lib.ListN.{length}
use Rattle.lines.specs.Lines.{longest, last_line}
use Rattle.result_lines.specs.steps.Rows.{rows_in}
use Rattle.row_lines.proofs.Puts.{text_put}
use Rattle.result_lines.proofs.Rows.{rows_count}
use Rattle.result_lines.proofs.Text.{others_fit, last_fits, all_put}
use Rattle.result_lines.proofs.put_text.Goals as goal
use Rattle.result_lines.proofs.put_text.Goals.{After-past_or, After-put_others-arg-1}

few : (s : After-put_others-arg-1) → let a = s.args in length (rows_in a.count a.clients.now a.times.now a.ticks.now) ≤ 128
few s =
    let a = s.args in
    omega (arith, s.requires.0, rows_count a.count a.clients.now a.times.now a.ticks.now)

pub put_others-past_others-requires : goal.put_others-past_others-requires
put_others-past_others-requires c =
    let p = c in
    let s = p in
    let a = s.args in
    others_fit (rows_in a.count a.clients.now a.times.now a.ticks.now) (few s) a.others a.ending a.out.now a.at s.requires.1 _ _
    p.put_rows-past_rows.ensures

few_2 : (s : After-past_or) → let a = s.args in length (rows_in a.count a.clients.now a.times.now a.ticks.now) ≤ 128
few_2 s =
    let a = s.args in
    omega (arith, s.requires.0, rows_count a.count a.clients.now a.times.now a.ticks.now)

pub returns : goal.returns
returns c =
    let w = c in
    let q = w in
    let p = q in
    let s = p in
    let a = s.args in
    let fs = rows_in a.count a.clients.now a.times.now a.ticks.now in
    let room = last_fits fs (few_2 s) a.others a.ending a.out.now a.at s.requires.1 _ _ p.put_rows-past_rows.ensures _ _ q.put_others-past_others.ensures in
    all_put fs (few_2 s) a.others a.ending a.out.now a.at s.requires.1 _ _ p.put_rows-past_rows.ensures _ _ q.put_others-past_others.ensures _ _
    (text_put _ _ (last_line a.ending) _ _ c.past_or.ensures _ longest room w.write_last.ensures.answer w.write_last.ensures.target)
