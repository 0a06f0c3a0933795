-- `reaching::put_all` meets its contract. Assumes nothing.
use Prim.Native.Nat.{◌≤◌}
use mathlib.Core.List.{List, ◌++◌}
use native.Mathlib.Omega.{arith}
use lib.ListN.{length}
use Rattle.record_writer.specs.steps.Puts.{PutsBytes}
use Rattle.state.specs.State.{entries_with}
use Rattle.state.specs.declared.Entries.{Entries}
use Rattle.state.proofs.Numbers.{back, element}
use Rattle.choice.specs.Chosen.{Rec, all_changes, skip_to, started_by, start_if, is_some, chosen, bytes_of}
use Rattle.choice.proofs.Lengths.{bytes_append_le, skip_le, all_changes_le, start_le}
use Rattle.choosing.specs.Choice.{Chooses}
use Rattle.reaching.proofs.Putting.{ready_at, second_room, both_put, something_put}
use Rattle.reaching.proofs.put_all.Goals as goal
use Rattle.reaching.proofs.put_all.Goals.{After-put-arg-1, After-put-arg-2-1, After-put_changes-arg-1, After-slice_known-4-1}

-- the parts of the choice
abbrev skip : After-put-arg-1 → List Rec
skip c = skip_to c.args.s.tick c.args.u

skipped : (c : After-put-arg-1) → Chooses (skip c) c.skip_to.result
skipped c =
    let st = c in
    rw (back st.args.u st.ranges.u, element st.args.s.tick c.struct_told-1.given.1.0.1) at c.skip_to.ensures

pub put-start-requires : goal.put-start-requires
put-start-requires c =
    let st = c in
    ready_at st.args.s.version (skip st) 10 (skip_le st.args.s.tick st.args.u) _ (skipped c st.args.s.version) _ 0 (omega (arith, st.requires.0))

-- the parts of the choice
abbrev skip_2 : After-put_changes-arg-1 → List Rec
skip_2 c = skip_to c.args.s.tick c.args.u

-- the entries, and those that are wanted
abbrev has : After-put_changes-arg-1 → Entries
has c = let a = c.args in entries_with a.marks.now a.xs.now a.ys.now a.held.now a.inputs.now

abbrev wants : After-put_changes-arg-1 → Entries
wants c = let a = c.args in entries_with a.wmarks.now a.wxs.now a.wys.now a.wheld.now a.winputs.now

abbrev change : After-put_changes-arg-1 → List Rec
change c = all_changes (has c) c.args.teams.now (wants c) c.args.wteams.now

change_le : (c : After-put_changes-arg-1) → length (bytes_of (change c)) ≤ 12800
change_le c = all_changes_le (has c) c.args.teams.now (wants c) c.args.wteams.now

skipped_2 : (c : After-put_changes-arg-1) → Chooses (skip_2 c) c.skip_to.result
skipped_2 c =
    let st = c in
    rw (back st.args.u st.ranges.u, element st.args.s.tick c.struct_told-1.given.1.0.1) at c.skip_to.ensures

-- after the skip
first : (c : After-put_changes-arg-1) → let st = c in
    PutsBytes st.args.out.now 0 (bytes_of (skip_2 st)) c.put-start.result c.put-start.new.out
first c = rw (skipped_2 c c.args.s.version).is at c.put-start.ensures

pub put_changes-changed-requires : goal.put_changes-changed-requires
put_changes-changed-requires c =
    let n = c in
    let st = n in
    let r = second_room (skip_2 st) (change st) 10 12800 (skip_le st.args.s.tick st.args.u) (change_le st)
    st.args.out.now 0 (omega (arith, st.requires.0)) _ _ (first n) in
    (omega (arith, r), st.requires.1)

-- the parts of the choice
abbrev skip_3 : After-put-arg-2-1 → List Rec
skip_3 c = skip_to c.args.s.tick c.args.u

-- the entries, and those that are wanted
abbrev has_2 : After-put-arg-2-1 → Entries
has_2 c = let a = c.args in entries_with a.marks.now a.xs.now a.ys.now a.held.now a.inputs.now

abbrev wants_2 : After-put-arg-2-1 → Entries
wants_2 c = let a = c.args in entries_with a.wmarks.now a.wxs.now a.wys.now a.wheld.now a.winputs.now

abbrev change_2 : After-put-arg-2-1 → List Rec
change_2 c = all_changes (has_2 c) c.args.teams.now (wants_2 c) c.args.wteams.now

change_le_2 : (c : After-put-arg-2-1) → length (bytes_of (change_2 c)) ≤ 12800
change_le_2 c = all_changes_le (has_2 c) c.args.teams.now (wants_2 c) c.args.wteams.now

skipped_3 : (c : After-put-arg-2-1) → Chooses (skip_3 c) c.skip_to.result
skipped_3 c =
    let st = c in
    rw (back st.args.u st.ranges.u, element st.args.s.tick c.struct_told-1.given.1.0.1) at c.skip_to.ensures

-- after the skip
first_2 : (c : After-put-arg-2-1) → let st = c in
    PutsBytes st.args.out.now 0 (bytes_of (skip_3 st)) c.put-start.result c.put-start.new.out
first_2 c = rw (skipped_3 c c.args.s.version).is at c.put-start.ensures

-- after the changes
second : (c : After-put-arg-2-1) → let st = c in
    PutsBytes st.args.out.now 0 (bytes_of (skip_3 st ++ change_2 st)) c.put_changes-changed.result c.put_changes-changed.new.out
second c =
    let n = c in
    let st = n in
    both_put (skip_3 st) (change_2 st) 10 12800 (skip_le st.args.s.tick st.args.u) (change_le_2 st)
    st.args.out.now 0 (omega (arith, st.requires.0)) n.put-start.result n.put-start.new.out (first_2 n) c.put_changes-changed.result c.put_changes-changed.new.out
    c.put_changes-changed.ensures

-- the last part of the choice
abbrev start : After-put-arg-2-1 → List Rec
start c = start_if (started_by c.args.s.inside c.args.s.tick c.args.u) (is_some (change_2 c))

start_is : (c : After-put-arg-2-1) → Chooses (start c) c.start_if-last.result
start_is c =
    let n = c in
    let k = n in
    let st = k in
    rw (
      c.started_by-started.ensures,
      back st.args.u st.ranges.u,
      element st.args.s.tick k.struct_told-1.given.1.0.1,
      something_put (change_2 st) k.put-start.result n.put_changes-changed.result n.put_changes-changed.ensures.0,
    ) at c.start_if-last.ensures

-- how many bytes they are
front_le : (c : After-put-arg-2-1) → length (bytes_of (skip_3 c ++ change_2 c)) ≤ 12810
front_le c = bytes_append_le (skip_3 c) (change_2 c) 10 12800 (skip_le c.args.s.tick c.args.u) (change_le_2 c)

last_le : (c : After-put-arg-2-1) → length (bytes_of (start c)) ≤ 25
last_le c = start_le (started_by c.args.s.inside c.args.s.tick c.args.u) (is_some (change_2 c))

pub put-requires : goal.put-requires
put-requires c =
    let n = c in
    let st = n in
    ready_at st.args.s.version (start st) 25 (last_le st) _ (start_is c st.args.s.version) _ _
    (second_room (skip_3 st ++ change_2 st) (start st) 12810 25 (front_le st) (last_le st) st.args.out.now 0 (omega (arith, st.requires.0)) _ _ (second n))

-- the parts of the choice
abbrev skip_4 : After-slice_known-4-1 → List Rec
skip_4 c = skip_to c.args.s.tick c.args.u

-- the entries, and those that are wanted
abbrev has_3 : After-slice_known-4-1 → Entries
has_3 c = let a = c.args in entries_with a.marks.now a.xs.now a.ys.now a.held.now a.inputs.now

abbrev wants_3 : After-slice_known-4-1 → Entries
wants_3 c = let a = c.args in entries_with a.wmarks.now a.wxs.now a.wys.now a.wheld.now a.winputs.now

abbrev change_3 : After-slice_known-4-1 → List Rec
change_3 c = all_changes (has_3 c) c.args.teams.now (wants_3 c) c.args.wteams.now

change_le_3 : (c : After-slice_known-4-1) → length (bytes_of (change_3 c)) ≤ 12800
change_le_3 c = all_changes_le (has_3 c) c.args.teams.now (wants_3 c) c.args.wteams.now

skipped_4 : (c : After-slice_known-4-1) → Chooses (skip_4 c) c.skip_to.result
skipped_4 c =
    let st = c in
    rw (back st.args.u st.ranges.u, element st.args.s.tick c.struct_told-1.given.1.0.1) at c.skip_to.ensures

-- after the skip
first_3 : (c : After-slice_known-4-1) → let st = c in
    PutsBytes st.args.out.now 0 (bytes_of (skip_4 st)) c.put-start.result c.put-start.new.out
first_3 c = rw (skipped_4 c c.args.s.version).is at c.put-start.ensures

-- after the changes
second_2 : (c : After-slice_known-4-1) → let st = c in
    PutsBytes st.args.out.now 0 (bytes_of (skip_4 st ++ change_3 st)) c.put_changes-changed.result c.put_changes-changed.new.out
second_2 c =
    let n = c in
    let st = n in
    both_put (skip_4 st) (change_3 st) 10 12800 (skip_le st.args.s.tick st.args.u) (change_le_3 st)
    st.args.out.now 0 (omega (arith, st.requires.0)) n.put-start.result n.put-start.new.out (first_3 n) c.put_changes-changed.result c.put_changes-changed.new.out
    c.put_changes-changed.ensures

-- the last part of the choice
abbrev start_2 : After-slice_known-4-1 → List Rec
start_2 c = start_if (started_by c.args.s.inside c.args.s.tick c.args.u) (is_some (change_3 c))

start_is_2 : (c : After-slice_known-4-1) → Chooses (start_2 c) c.start_if-last.result
start_is_2 c =
    let n = c in
    let k = n in
    let st = k in
    rw (
      c.started_by-started.ensures,
      back st.args.u st.ranges.u,
      element st.args.s.tick k.struct_told-1.given.1.0.1,
      something_put (change_3 st) k.put-start.result n.put_changes-changed.result n.put_changes-changed.ensures.0,
    ) at c.start_if-last.ensures

-- how many bytes they are
front_le_2 : (c : After-slice_known-4-1) → length (bytes_of (skip_4 c ++ change_3 c)) ≤ 12810
front_le_2 c = bytes_append_le (skip_4 c) (change_3 c) 10 12800 (skip_le c.args.s.tick c.args.u) (change_le_3 c)

last_le_2 : (c : After-slice_known-4-1) → length (bytes_of (start_2 c)) ≤ 25
last_le_2 c = start_le (started_by c.args.s.inside c.args.s.tick c.args.u) (is_some (change_3 c))

pub returns : goal.returns
unfolding chosen
returns c =
    let n = c in
    let st = n in
    both_put (skip_4 st ++ change_3 st) (start_2 st) 12810 25 (front_le_2 st) (last_le_2 st) st.args.out.now 0 (omega (arith, st.requires.0)) _ _ (second_2 n) _ _
    (rw (start_is_2 c st.args.s.version).is at c.put.ensures)
