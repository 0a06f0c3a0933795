-- `replayer::turn` meets its contract. Assumes nothing.
use Rattle.replayer.proofs.OneTurn.{nothing, last_fits, turned}
use Rattle.replayer.proofs.turn.Goals as goal

pub returns-then-n-eq0 : goal.returns-then-n-eq0
returns-then-n-eq0 c =
    let r = c in
    let a = r.args in
    rw c.no_turn.ensures
    (nothing a.reader a.bytes.now a.ended a.rows.now a.tens.now a.out.now r.event_room-n.result r.event_room-n.ensures
    c.if-n-eq0.true)

pub put_ending-requires : goal.put_ending-requires
put_ending-requires c =
    let p = c in
    let m = p in
    let f = m in
    let l = f in
    let i = l in
    let r = i in
    let a = r.args in
    last_fits a.reader a.bytes.now a.ended a.rows.now a.tens.now a.out.now r.event_room-n.result r.event_room-n.ensures i.if-n-eq0.false
    m.read_many-many.result _ _ l.min-end.result l.min-end.ensures
    f.is_last.result f.is_last.ensures m.read_many-many.ensures _ _ p.put_rows-at.ensures

pub returns : goal.returns
returns c =
    let e = c in
    let p = e in
    let m = p in
    let f = m in
    let l = f in
    let i = l in
    let r = i in
    let a = r.args in
    turned a.reader a.bytes.now a.ended a.rows.now a.tens.now a.out.now r.event_room-n.result r.event_room-n.ensures i.if-n-eq0.false
    m.read_many-many.result _ _ l.min-end.result l.min-end.ensures
    f.is_last.result f.is_last.ensures m.read_many-many.ensures _ _ p.put_rows-at.ensures _ _
    e.put_ending.ensures _ c.has_ending.ensures _ c.wants_more.ensures
