-- `result_lines::put_rows` meets its contract. The loop's invariant: the lines still to come, put at the next place, make of the target what
-- all of them make of it. Assumes nothing.
use mathlib.Core.Path.{◌≡◌}
use lib.ListN.{get_or}
use lib.IntN.{pos}
use mir.Syntax.{w32}
use mir.Val.{to_z, of_z}
use Rattle.state.proofs.Numbers.{element}
use Rattle.result_lines.proofs.Rows.{onward, done}
use Rattle.result_lines.proofs.put_rows.Goals as goal

pub loop-i-preserved : goal.loop-i-preserved
loop-i-preserved c =
    let p = c in
    let k3 = p in
    let k2 = k3 in
    let k1 = k2 in
    let t = k1 in
    let l = t.loop-i in
    let s = t in
    let a = s.args in
    let x = get_or a.clients.now l.i (pos 0) in
    let y = get_or a.times.now l.i (pos 0) in
    let z = get_or a.ticks.now l.i (pos 0) in
    let ex : to_z w32 (of_z w32 x) ≡ x = element x k1.put_row-arg-1.given in
    let ey : to_z w32 (of_z w32 y) ≡ y = element y k2.put_row-arg-in-loop-i-1.given in
    let ez : to_z w32 (of_z w32 z) ≡ z = element z k3.put_row-arg-in-loop-i-2-1.given in
    onward a.clients.now a.times.now a.ticks.now a.count a.out.now a.at l.i l.next l.out l.invariant s.requires.1
    t.loop-i-test.true _ _ (rw (ex, ey, ez) at p.put_row-next.ensures)

pub returns : goal.returns
returns c =
    let l = c.loop-i in
    let s = c in
    let a = s.args in
    done a.clients.now a.times.now a.ticks.now a.count a.out.now a.at l.i l.next l.out l.invariant s.requires.1
    c.loop-i-test.false
