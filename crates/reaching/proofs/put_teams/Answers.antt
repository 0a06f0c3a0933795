-- `reaching::put_teams` meets its contract. The loop's invariant: the teams of the clients below `c` were put. Assumes nothing.
use Prim.Native.Nat.{ℕ, ◌≤◌, ◌<◌}
use mathlib.Core.List.{List}
use native.Mathlib.Omega.{arith}
use lib.ListN.{length}
use lib.IntN.{pos}
use Rattle.teams.specs.Teams.{team_of}
use Rattle.choice.specs.Chosen.{Rec, team_for, bytes_of}
use Rattle.choice.proofs.Lengths.{team_le}
use Rattle.reaching.proofs.Putting.{nothing_yet, turn_ready, turn_put}
use Rattle.reaching.proofs.put_teams.Goals as goal
use Rattle.reaching.proofs.put_teams.Goals.{After-put-arg-1, After-slice_known-in-loop-c-1}

-- the records of each client, and that they are short
abbrev steps : After-put-arg-1 → ℕ → List Rec
steps c = team_for c.args.teams.now c.args.wteams.now

small : (st : After-put-arg-1) (i : ℕ) → i < 128 → length (bytes_of (steps st i)) ≤ 25
small st i h = team_le i (team_of st.args.teams.now (pos i)) (team_of st.args.wteams.now (pos i)) h

pub put-next-requires : goal.put-next-requires
put-next-requires c =
    let st = c in
    let v = st.args.version in
    let l = c.loop-c in
    turn_ready (steps st) 128 25 (small st) st.args.out.now st.args.at st.requires.0 l.c (omega arith) l.next l.out l.invariant v _
    (c.team_choice-choice.ensures v (st.requires.1 l.c (omega arith)))

-- the records of each client, and that they are short
abbrev steps_2 : After-slice_known-in-loop-c-1 → ℕ → List Rec
steps_2 c = team_for c.args.teams.now c.args.wteams.now

small_2 : (st : After-slice_known-in-loop-c-1) (i : ℕ) → i < 128 → length (bytes_of (steps_2 st i)) ≤ 25
small_2 st i h = team_le i (team_of st.args.teams.now (pos i)) (team_of st.args.wteams.now (pos i)) h

pub loop-c-preserved : goal.loop-c-preserved
loop-c-preserved c =
    let st = c in
    let v = st.args.version in
    let l = c.loop-c in
    turn_put (steps_2 st) 128 25 (small_2 st) st.args.out.now st.args.at st.requires.0 l.c (omega arith) l.next l.out l.invariant v _
    (c.team_choice-choice.ensures v (st.requires.1 l.c (omega arith))) _ _ c.put-next.ensures

pub loop-c-init : goal.loop-c-init
loop-c-init c = nothing_yet _ _ _ (omega arith)
