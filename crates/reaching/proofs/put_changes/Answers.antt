-- `reaching::put_changes` meets its contract. Assumes nothing.
use mathlib.Core.List.{List}
use native.Mathlib.Omega.{arith}
use Rattle.state.specs.State.{entries_with}
use Rattle.state.specs.declared.Entries.{Entries}
use Rattle.choice.specs.Chosen.{Rec, team_for, joined, changes, all_changes}
use Rattle.choice.proofs.Lengths.{changes_le, teams_le}
use Rattle.reaching.proofs.Putting.{second_room, both_put}
use Rattle.reaching.proofs.put_changes.Goals as goal
use Rattle.reaching.proofs.put_changes.Goals.{After-put_teams-arg-1, After-slice_known-3-1}

-- the entries, and those that are wanted
abbrev has : After-put_teams-arg-1 → Entries
has c = let a = c.args in entries_with a.marks.now a.xs.now a.ys.now a.held.now a.inputs.now

abbrev wants : After-put_teams-arg-1 → Entries
wants c = let a = c.args in entries_with a.wmarks.now a.wxs.now a.wys.now a.wheld.now a.winputs.now

-- the records of teams
abbrev joining : After-put_teams-arg-1 → List Rec
joining c = joined 128 (team_for c.args.teams.now c.args.wteams.now)

pub put_teams-requires : goal.put_teams-requires
put_teams-requires c =
    let n = c in
    let st = n in
    let a = st.args in
    let room = second_room (changes (has st) (wants st)) (joining st) 9600 3200 (changes_le (has st) (wants st))
    (teams_le a.teams.now a.wteams.now 128 (omega arith)) a.out.now a.at (omega (arith, st.requires.0))
    n.put_entries-next.result n.put_entries-next.new.out n.put_entries-next.ensures in
    (room, st.requires.1)

-- the entries, and those that are wanted
abbrev has_2 : After-slice_known-3-1 → Entries
has_2 c = let a = c.args in entries_with a.marks.now a.xs.now a.ys.now a.held.now a.inputs.now

abbrev wants_2 : After-slice_known-3-1 → Entries
wants_2 c = let a = c.args in entries_with a.wmarks.now a.wxs.now a.wys.now a.wheld.now a.winputs.now

-- the records of teams
abbrev joining_2 : After-slice_known-3-1 → List Rec
joining_2 c = joined 128 (team_for c.args.teams.now c.args.wteams.now)

pub returns : goal.returns
unfolding all_changes
returns c =
    let n = c in
    let st = n in
    let a = st.args in
    both_put (changes (has_2 st) (wants_2 st)) (joining_2 st) 9600 3200 (changes_le (has_2 st) (wants_2 st))
    (teams_le a.teams.now a.wteams.now 128 (omega arith)) a.out.now a.at (omega (arith, st.requires.0))
    n.put_entries-next.result n.put_entries-next.new.out n.put_entries-next.ensures
    _ _
    c.put_teams.ensures
