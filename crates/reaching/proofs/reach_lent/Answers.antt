-- `reaching::reach_lent` meets its contract. Assumes nothing.
use Rattle.std.specs.Prelude.{Some, Result, ℤ}
use mathlib.Core.Path.{◌≡◌, ◌∙◌, subst}
use native.Mathlib.Omega.{arith}
use mir.Syntax.{w32}
use mir.Val.{to_z, of_z}
use borrow.Author.Rules.{rules}
use Rattle.refusal.specs.declared.Refusal.{Refusal}
use Rattle.state.specs.State.{entries_with, reader_with}
use Rattle.teams.specs.Teams.{team_reader}
use Rattle.teams.specs.declared.TeamReader.{TeamReader}
use Rattle.back.specs.Board.{board}
use Rattle.back.specs.TeamBoard.{team_board}
use Rattle.back.specs.declared.TeamBoard.{TeamBoard}
use Rattle.choice.specs.Chosen.{chosen, bytes_of}
use Rattle.choice.specs.Reaching.{may, may_reach}
use Rattle.choice.proofs.Lengths.{chosen_le}
use Rattle.reachable.specs.steps.Tests.{AllowedIs}
use Rattle.reaching.proofs.Answers.{teams_in_law, reach_done}
use Rattle.reaching.proofs.Putting.{front_shown}
use Rattle.reaching.proofs.reach_lent.Goals as goal
use Rattle.reaching.proofs.reach_lent.Goals.{After-bytes-1, After-slice_known-in-Ok-1}

abbrev reader : After-bytes-1 → TeamReader
reader c =
    let a = c.args in
    team_reader (reader_with a.s (entries_with a.marks.now a.xs.now a.ys.now a.held.now a.inputs.now)) a.teams.now

abbrev wanted : After-bytes-1 → TeamBoard
wanted c =
    let a = c.args in
    team_board (board a.tick (entries_with a.wmarks.now a.wxs.now a.wys.now a.wheld.now a.winputs.now)) a.wteams.now

-- the wanted tick, and that it may be reached
module _ (c : After-bytes-1) where
  to : (may_reach (reader c) (wanted c) ≡ may) × ((wanted c).board.tick ≡ Some c.in-Ok.u)
  to =
      subst (λ (x : Result ℤ Refusal). AllowedIs c.args.tick x (may_reach (reader c) (wanted c))) c.in-Ok.is
      c.may_reach-allowed.ensures

pub put_all-n-requires : goal.put_all-n-requires
put_all-n-requires c =
    let n = c in
    let st = n in
    (omega (arith, c.memory-bytes.ensures), teams_in_law (reader st) (wanted st) n.in-Ok.u (to n).0 (to n).1)

abbrev reader_2 : After-slice_known-in-Ok-1 → TeamReader
reader_2 c =
    let a = c.args in
    team_reader (reader_with a.s (entries_with a.marks.now a.xs.now a.ys.now a.held.now a.inputs.now)) a.teams.now

abbrev wanted_2 : After-slice_known-in-Ok-1 → TeamBoard
wanted_2 c =
    let a = c.args in
    team_board (board a.tick (entries_with a.wmarks.now a.wxs.now a.wys.now a.wheld.now a.winputs.now)) a.wteams.now

-- the wanted tick, and that it may be reached
module _ (c : After-slice_known-in-Ok-1) where
  to_2 : (may_reach (reader_2 c) (wanted_2 c) ≡ may) × ((wanted_2 c).board.tick ≡ Some c.in-Ok.u)
  to_2 =
      subst (λ (x : Result ℤ Refusal). AllowedIs c.args.tick x (may_reach (reader_2 c) (wanted_2 c))) c.in-Ok.is
      c.may_reach-allowed.ensures

pub returns-in-Ok : goal.returns-in-Ok
returns-in-Ok c =
    let n = c in
    let st = n in
    let r = reader_2 st in
    let b = wanted_2 st in
    let u : to_z w32 (of_z w32 n.in-Ok.u) ≡ n.in-Ok.u = search rules in
    let m = to_2 n in
    let p = rw u at n.put_all-n.ensures in
    let bs = bytes_of (chosen r.reader.scalars r.reader.entries r.teams n.in-Ok.u b.board.entries b.teams) in
    let le = chosen_le r.reader.scalars r.reader.entries r.teams n.in-Ok.u b.board.entries b.teams in
    let f = front_shown n.memory-bytes.result bs
    (omega (arith, le, n.memory-bytes.ensures))
    n.put_all-n.result n.put_all-n.new.out p in
    let w = c.write_raw.ensures in
    reach_done r b st.args.out.now n.in-Ok.u m.0 m.1 _ _ _ (c.show.ensures ∙ f) w.answer w.target
