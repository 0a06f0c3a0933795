-- `reach_turns::turn` meets its contract. Assumes nothing.
use Rattle.reach_turns.proofs.OneTurn.{turned}
use Rattle.reach_turns.proofs.turn.Goals as goal

pub returns : goal.returns
returns c =
    let m = c in
    let t = m in
    let r = t in
    let l = r in
    let a = l.args in
    turned a.reader a.bytes.now l.min-end.result l.min-end.ensures _ _ r.row_space-rows.ensures t.ten_space-tens.ensures
    m.read_many-many.result _ _ m.read_many-many.ensures c.has_ending.result c.has_ending.ensures c.wants_more.result
    c.wants_more.ensures
