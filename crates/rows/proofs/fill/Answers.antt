-- `rows::fill` meets its contract. Assumes nothing.
use Prim.Native.Nat.{ℕ, ◌*◌}
use mathlib.Core.Path.{◌≡◌, refl, sym, ap, ◌∙◌}
use mathlib.Core.List.{List, []}
use native.Mathlib.Omega.{arith}
use lib.IntN.{ℤ}
use mir.Syntax.{w32}
use mir.Val.{to_z, of_z}
use borrow.Author.Rules.{rules}
use Rattle.state.specs.Reading.{Event}
use Rattle.state.proofs.Numbers.{back, Three}
use Rattle.teams.specs.Teams.{teams_after, former_team}
use Rattle.rows.specs.Rows.{flag, event_row, event_tens, put}
use Rattle.rows.specs.steps.Stores.{Filled}
use Rattle.rows.proofs.Puts.{put_none}
use Rattle.rows.proofs.fill.Goals as goal

-- a number is that of its bits
abbrev Same : ℤ → Type 0
Same z = to_z w32 (of_z w32 z) ≡ z

-- an event without twenty numbers
row_only : {e : Event} {n pending : ℤ} {i : ℕ} {ten former t₀ t₁ rows tens end : List ℤ} → event_tens e ten former ≡ [] → t₁ ≡ teams_after e t₀
    → end ≡ put rows (8 * i) (event_row e (former_team e t₀) n pending) → Filled e n pending i ten former t₀ rows tens t₁ end tens
row_only {i = i} {tens = tens} none teams row =
    record { teams = teams; rows = row; tens = sym (ap (put tens (20 * i)) none ∙ put_none tens (20 * i)) }

pub returns-in-PlayerChange : goal.returns-in-PlayerChange
unfolding teams_after former_team
returns-in-PlayerChange c =
    let st = c in
    let k : Three c.in-PlayerChange.cid c.in-PlayerChange.x c.in-PlayerChange.y = search rules in
    let old-x : Same c.in-PlayerChange.old_x = search rules in
    let old-y : Same c.in-PlayerChange.old_y = search rules in
    rw c.in-PlayerChange.is (row_only refl refl (rw (back st.args.n st.ranges.n, k.first, k.second, k.third, old-x, old-y) at c.put_row-in-PlayerChange.ensures))

pub returns-in-Input : goal.returns-in-Input
unfolding teams_after former_team
returns-in-Input c =
    let m = c in
    let st = m in
    let f = m.from in
    let b : Same m.in-Input.cid × Same f.result = (search rules, search rules) in
    let e : f.result ≡ flag m.in-Input.had = grind arith in
    rw m.in-Input.is (record { teams = refl; rows = rw (back st.args.n st.ranges.n, b.0, b.1, e) at m.put_row-in-Input.ensures; tens = c.put_tens.ensures })

pub returns-in-Record : goal.returns-in-Record
returns-in-Record c =
    let call = c in
    let st = call in
    rw call.in-Record.is
    (row_only refl call.apply-team.ensures.1
    (rw (back st.args.n st.ranges.n, back st.args.pending st.ranges.pending, call.apply-team.ensures.0) at c.put_record.ensures))

pub returns-in-TickStart : goal.returns-in-TickStart
unfolding teams_after former_team
returns-in-TickStart c =
    let st = c in
    let t : Same c.in-TickStart.t = search rules in
    rw c.in-TickStart.is (row_only refl refl (rw (back st.args.n st.ranges.n, t) at c.put_row.ensures))

pub returns-in-TickEnd : goal.returns-in-TickEnd
unfolding teams_after former_team
returns-in-TickEnd c =
    let st = c in
    let t : Same c.in-TickEnd.t = search rules in
    rw c.in-TickEnd.is (row_only refl refl (rw (back st.args.n st.ranges.n, t) at c.put_row-in-TickEnd.ensures))

pub returns-in-PlayerNew : goal.returns-in-PlayerNew
unfolding teams_after former_team
returns-in-PlayerNew c =
    let st = c in
    let k : Three c.in-PlayerNew.cid c.in-PlayerNew.x c.in-PlayerNew.y = search rules in
    rw c.in-PlayerNew.is (row_only refl refl (rw (back st.args.n st.ranges.n, k.first, k.second, k.third) at c.put_row-in-PlayerNew.ensures))

pub returns-in-PlayerOld : goal.returns-in-PlayerOld
unfolding teams_after former_team
returns-in-PlayerOld c =
    let st = c in
    let k : Three c.in-PlayerOld.cid c.in-PlayerOld.x c.in-PlayerOld.y = search rules in
    rw c.in-PlayerOld.is (row_only refl refl (rw (back st.args.n st.ranges.n, k.first, k.second, k.third) at c.put_row-in-PlayerOld.ensures))
