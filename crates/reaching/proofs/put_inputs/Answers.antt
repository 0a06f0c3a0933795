-- `reaching::put_inputs` meets its contract. The loop's invariant: the inputs of the clients below `c` were put. Assumes nothing.
use Prim.Native.Nat.{ℕ, ◌≤◌, ◌<◌}
use mathlib.Core.List.{List, []}
use native.Mathlib.Omega.{arith}
use lib.ListN.{length}
use Rattle.state.specs.State.{entries_with}
use Rattle.choice.specs.Chosen.{Rec, input_for, bytes_of}
use Rattle.choice.proofs.Lengths.{input_for_le}
use Rattle.reaching.proofs.Putting.{nothing_yet, turn_ready, turn_put}
use Rattle.reaching.proofs.put_inputs.Goals as goal
use Rattle.reaching.proofs.put_inputs.Goals.{After-put-arg-1, After-slice_known-in-loop-c-1}

-- the records of each client, and that they are short
abbrev steps : After-put-arg-1 → ℕ → List Rec
steps c =
    let a = c.args in
    input_for (entries_with [] [] [] a.held.now a.inputs.now) (entries_with [] [] [] a.wheld.now a.winputs.now)

small : (st : After-put-arg-1) (i : ℕ) → i < 128 → length (bytes_of (steps st i)) ≤ 60
small st i h =
    let a = st.args in
    input_for_le (entries_with [] [] [] a.held.now a.inputs.now) (entries_with [] [] [] a.wheld.now a.winputs.now) i

pub put-next-requires : goal.put-next-requires
put-next-requires c =
    let st = c in
    let l = c.loop-c in
    turn_ready (steps st) 128 60 (small st) st.args.out.now st.args.at st.requires l.c (omega arith) l.next l.out l.invariant st.args.version _
    (c.input_choice-choice.ensures [] [] [] [] [] [] st.args.version)

-- the records of each client, and that they are short
abbrev steps_2 : After-slice_known-in-loop-c-1 → ℕ → List Rec
steps_2 c =
    let a = c.args in
    input_for (entries_with [] [] [] a.held.now a.inputs.now) (entries_with [] [] [] a.wheld.now a.winputs.now)

small_2 : (st : After-slice_known-in-loop-c-1) (i : ℕ) → i < 128 → length (bytes_of (steps_2 st i)) ≤ 60
small_2 st i h =
    let a = st.args in
    input_for_le (entries_with [] [] [] a.held.now a.inputs.now) (entries_with [] [] [] a.wheld.now a.winputs.now) i

pub loop-c-preserved : goal.loop-c-preserved
loop-c-preserved c =
    let st = c in
    let l = c.loop-c in
    turn_put (steps_2 st) 128 60 (small_2 st) st.args.out.now st.args.at st.requires l.c (omega arith) l.next l.out l.invariant st.args.version _
    (c.input_choice-choice.ensures [] [] [] [] [] [] st.args.version) _ _ c.put-next.ensures

pub loop-c-init : goal.loop-c-init
loop-c-init c = nothing_yet _ _ _ (omega arith)
