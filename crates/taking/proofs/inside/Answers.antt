-- `taking::inside` meets its contract. Assumes nothing.
use borrow.Author.Rules.{rules}
use Rattle.state.proofs.Numbers.{back, Three}
use Rattle.back.proofs.Cases.{Same}
use Rattle.taking.proofs.inside.Goals as goal
use Rattle.taking.proofs.inside.Goals.{After-un_input, After-un_old, After-un_present, After-un_present-in-Change}

tick : (c : After-un_present) → Same c.args.t
tick c = back c.args.t c.ranges.t

pub returns-in-New : goal.returns-in-New
returns-in-New c =
    let st = c in
    let k : Three c.in-New.cid c.in-New.x c.in-New.y = search rules in
    rw c.in-New.is (rw (tick st, k.first, k.second, k.third) at (c.un_present.ensures st.args.held.now st.args.inputs.now))

tick_2 : (c : After-un_present-in-Change) → Same c.args.t
tick_2 c = back c.args.t c.ranges.t

pub returns-in-Change : goal.returns-in-Change
returns-in-Change c =
    let st = c in
    let k : Three c.in-Change.cid c.in-Change.x c.in-Change.y = search rules in
    let old-x : Same c.in-Change.old_x = search rules in
    let old-y : Same c.in-Change.old_y = search rules in
    rw c.in-Change.is
    (rw (tick_2 st, k.first, k.second, k.third, old-x, old-y) at (c.un_present-in-Change.ensures st.args.held.now st.args.inputs.now))

tick_3 : (c : After-un_old) → Same c.args.t
tick_3 c = back c.args.t c.ranges.t

pub returns-in-Old : goal.returns-in-Old
returns-in-Old c =
    let st = c in
    let k : Three c.in-Old.cid c.in-Old.x c.in-Old.y = search rules in
    rw c.in-Old.is (rw (tick_3 st, k.first, k.second, k.third) at (c.un_old.ensures st.args.held.now st.args.inputs.now))

tick_4 : (c : After-un_input) → Same c.args.t
tick_4 c = back c.args.t c.ranges.t

pub returns-in-Input : goal.returns-in-Input
returns-in-Input c =
    let st = c in
    let cid : Same c.in-Input.cid = search rules in
    rw c.in-Input.is (rw (tick_4 st, cid) at (c.un_input.ensures st.args.marks.now st.args.xs.now st.args.ys.now))
