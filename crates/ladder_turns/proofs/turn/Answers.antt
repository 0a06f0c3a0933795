-- `ladder_turns::turn` meets its contract. Assumes nothing.
use Rattle.ladder_turns.proofs.OneTurn.{turned}
use Rattle.ladder_turns.proofs.turn.Goals as goal

pub returns : goal.returns
returns c =
    let r = c in
    let f = r in
    let l = f in
    let a = l.args in
    turned a.list a.reader a.bytes.now a.ended l.min-end.result l.min-end.ensures f.is_last.result f.is_last.ensures
    r.read_on-read.result r.read_on-read.ensures c.after_turn.result c.after_turn.ensures
