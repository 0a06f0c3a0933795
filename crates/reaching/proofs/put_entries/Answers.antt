-- `reaching::put_entries` meets its contract. Assumes nothing.
use native.Mathlib.Omega.{arith}
use Rattle.state.specs.State.{entries_with}
use Rattle.state.specs.declared.Entries.{Entries}
use Rattle.choice.specs.Chosen.{player_for, input_for, joined, changes}
use Rattle.choice.proofs.Lengths.{players_le, inputs_le}
use Rattle.reaching.proofs.Putting.{second_room, both_put}
use Rattle.reaching.proofs.put_entries.Goals as goal
use Rattle.reaching.proofs.put_entries.Goals.{After-put_inputs-arg-1, After-slice_known-3-1}

-- the entries, and those that are wanted
abbrev has : After-put_inputs-arg-1 → Entries
has c = let a = c.args in entries_with a.marks.now a.xs.now a.ys.now a.held.now a.inputs.now

abbrev wants : After-put_inputs-arg-1 → Entries
wants c = let a = c.args in entries_with a.wmarks.now a.wxs.now a.wys.now a.wheld.now a.winputs.now

pub put_inputs-requires : goal.put_inputs-requires
put_inputs-requires c =
    let st = c in
    let a = st.args in
    let e = has st in
    let w = wants st in
    second_room (joined 128 (player_for e w)) (joined 128 (input_for e w)) 1920 7680 (players_le e w 128 (omega arith)) (inputs_le e w 128)
    a.out.now a.at (omega arith) _ _
    (c.put_players-next.ensures a.held.now a.inputs.now a.wheld.now a.winputs.now)

-- the entries, and those that are wanted
abbrev has_2 : After-slice_known-3-1 → Entries
has_2 c = let a = c.args in entries_with a.marks.now a.xs.now a.ys.now a.held.now a.inputs.now

abbrev wants_2 : After-slice_known-3-1 → Entries
wants_2 c = let a = c.args in entries_with a.wmarks.now a.wxs.now a.wys.now a.wheld.now a.winputs.now

pub returns : goal.returns
unfolding changes
returns c =
    let st = c in
    let a = st.args in
    let e = has_2 st in
    let w = wants_2 st in
    both_put (joined 128 (player_for e w)) (joined 128 (input_for e w)) 1920 7680 (players_le e w 128 (omega arith)) (inputs_le e w 128)
    a.out.now a.at (omega arith) _ _
    (c.put_players-next.ensures a.held.now a.inputs.now a.wheld.now a.winputs.now)
    _ _
    (c.put_inputs.ensures a.marks.now a.xs.now a.ys.now a.wmarks.now a.wxs.now a.wys.now)
