-- `taking::un_present` meets its contract. Assumes nothing.
use Rattle.std.specs.Prelude.{Some}
use mathlib.Core.Path.{◌≡◌, sym, ◌∙◌}
use mathlib.Core.List.{[]}
use Rattle.state.specs.State.{x_of, y_of, entries_with, with_player}
use Rattle.state.proofs.Numbers.{back, bits_are, element}
use Rattle.back.specs.Board.{board}
use Rattle.taking.proofs.Cases.{fitting_in, at_position, present_here}
use Rattle.taking.proofs.un_present.Goals as goal
use Rattle.taking.proofs.un_present.Goals.{After-left-2}

-- the test of the position
placed : (c : After-left-2)
    → (let st = c in
    let a = st.args in
    c.at_position.result
    ≡ at_position (entries_with a.marks.now a.xs.now a.ys.now [] []) c.bits-bits.result a.x a.y)
placed c =
    let st = c in
    let a = st.args in
    let e = entries_with a.marks.now a.xs.now a.ys.now [] [] in
    let i = c.bits-bits.result in
    let px = element (x_of e i) c.at_position-arg-2-1.given in
    let py = element (y_of e i) c.at_position-arg-3-1.given in
    rw (px, py, back a.x st.ranges.x, back a.y st.ranges.y) at c.at_position.ensures

pub returns : goal.returns
returns c held inputs =
    let st = c in
    let a = st.args in
    let e = entries_with a.marks.now a.xs.now a.ys.now held inputs in
    let bits = c.bits-bits in
    let b = bits_are a.cid _ st.ranges.cid bits.ensures in
    rw (back a.old_x st.ranges.old_x, back a.old_y st.ranges.old_y)
    (fitting_in (board (Some a.t) e) (with_player e bits.result a.mark a.old_x a.old_y) st.ranges.t c.left-2.ensures
    (present_here a.t e a.cid _ st.ranges.cid b c.if-bits-ge128.false a.x a.y a.mark a.old_x a.old_y
    (sym (placed c) ∙ c.if-not-at_position.false)))
