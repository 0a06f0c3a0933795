-- `rewind_turns::turn` meets its contract. Assumes nothing.
use Rattle.reel.specs.Reel.{reel_of}
use Rattle.rewind_turns.proofs.OneTurn.{turned}
use Rattle.rewind_turns.proofs.turn.Goals as goal

pub returns : goal.returns
returns c =
    let r = c in
    let f = r in
    let l = f in
    let a = l.args in
    turned a.most a.reader (reel_of a.counts a.rows.now a.inputs.now a.formers.now) a.bytes.now a.ended
    l.min-end.result l.min-end.ensures f.is_last.result f.is_last.ensures r.read_kept-read.result _ r.read_kept-read.ensures
    c.is_over.result c.is_over.ensures c.wants_more.result c.wants_more.ensures
