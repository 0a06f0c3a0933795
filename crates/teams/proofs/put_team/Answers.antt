-- `teams::put_team` meets its contract. Assumes nothing.
use mathlib.Core.Path.{◌≡◌, ◌∙◌}
use Prim.Native.Nat.{◌+◌, ◌*◌}
use borrow.Author.Rules.{rules}
use lib.ListN.{set}
use mir.Syntax.{w32}
use mir.Val.{to_z, of_z}
use Rattle.state.proofs.Numbers.{bits_are}
use Rattle.teams.proofs.Teams.{put_here}
use Rattle.teams.proofs.put_team.Goals as goal

pub returns-then-bits-lt128 : goal.returns-then-bits-lt128
returns-then-bits-lt128 c =
    let st = c in
    let a = st.args in
    let b = c.bits-bits.result in
    let m : to_z w32 (of_z w32 c.mark_for.result) ≡ c.mark_for.result = search rules in
    let n : to_z w32 (of_z w32 c.number_for.result) ≡ c.number_for.result = search rules in
    (λ k. set (set a.teams.now (2 * b) ((m ∙ c.mark_for.ensures) k)) (2 * b + 1) ((n ∙ c.number_for.ensures) k))
    ∙ put_here a.teams.now a.cid b st.ranges.cid (bits_are a.cid b st.ranges.cid c.bits-bits.ensures)
    c.if-bits-lt128.true a.team
