-- `board_lines::put_gone` meets its contract. Assumes nothing.
use Rattle.board_lines.proofs.Text.{end_fits, gone_put}
use Rattle.board_lines.proofs.put_gone.Goals as goal

pub put_end-requires : goal.put_end-requires
put_end-requires c =
    let p = c in
    let s = p in
    let a = s.args in
    end_fits a.answer a.board a.out.now a.at s.requires _ _ p.put_board-next.ensures

pub returns : goal.returns
returns c =
    let e = c in
    let p = e in
    let s = p in
    let a = s.args in
    gone_put a.answer a.board a.out.now a.at s.requires _ _ p.put_board-next.ensures _ _ e.put_end.ensures
