-- `taking::take_off_team` meets its contract. Assumes nothing.
use Rattle.state.specs.State.{entries_with}
use Rattle.state.specs.declared.Entries.{Entries}
use Rattle.back.specs.Undo.{undone, former_in}
use Rattle.taking.proofs.Teams.{unfit_teams, fits_both, unfit_board}
use Rattle.taking.proofs.take_off_team.Goals as goal
use Rattle.taking.proofs.take_off_team.Goals.{After-left, After-put_former, Else-off}

abbrev given : (c : After-left) → Entries
given c = entries_with c.args.marks.now c.args.xs.now c.args.ys.now c.args.held.now c.args.inputs.now

pub returns-then-not-fits_teams : goal.returns-then-not-fits_teams
returns-then-not-fits_teams c =
    let k = c in
    let st = k in
    let a = st.args in
    unfit_teams (undone a.undo) a.input a.former (former_in a.undo) a.tick (given st) a.teams.now _ _
    k.fits_teams.ensures c.if-not-fits_teams.true c.left.ensures

abbrev given_2 : (c : After-put_former) → Entries
given_2 c = entries_with c.args.marks.now c.args.xs.now c.args.ys.now c.args.held.now c.args.inputs.now

pub returns-then-off : goal.returns-then-off
returns-then-off c =
    let k = c in
    let i = k in
    let st = i in
    let a = st.args in
    fits_both (undone a.undo) a.input a.former (former_in a.undo) a.tick (given_2 st) a.teams.now _ _ _
    i.fits_teams.ensures i.if-not-fits_teams.false k.take_off-off.ensures _ c.if-off.true c.put_former.ensures

abbrev given_3 : (c : Else-off) → Entries
given_3 c = entries_with c.args.marks.now c.args.xs.now c.args.ys.now c.args.held.now c.args.inputs.now

pub returns-else-off : goal.returns-else-off
returns-else-off c =
    let k = c in
    let i = k in
    let st = i in
    let a = st.args in
    unfit_board (undone a.undo) a.input a.former (former_in a.undo) a.tick (given_3 st) a.teams.now _ _ _
    i.fits_teams.ensures i.if-not-fits_teams.false k.take_off-off.ensures c.if-off.false
