-- The call's answer by whether the board may be reached; and that then its teams can be written. Assumes nothing.
use Rattle.std.specs.Prelude.{Option, Some, None, Result, Err}
use mathlib.Core.Path.{◌≡◌, refl, sym, ◌∙◌, ap}
use mathlib.Core.Bool.{Bool, true, false, cond}
use mathlib.Core.List.{List}
use Prim.Native.Nat.{ℕ}
use lib.IntN.{ℤ}
use Rattle.refusal.specs.declared.Refusal.{Refusal}
use Rattle.varint.specs.Written.{written, wrote_said}
use Rattle.varint.specs.steps.Writing.{wrote}
use Rattle.varint.proofs.Theorems.{writers_say}
use Rattle.kinds.specs.Kinds.{has_ex}
use Rattle.kinds.specs.declared.Version.{Version}
use Rattle.kinds.specs.declared.Version.TheVariants.{V2}
use Rattle.teams.specs.Teams.{number_of, has_team}
use Rattle.teams.specs.declared.TeamReader.{TeamReader}
use Rattle.back.specs.Board.{board}
use Rattle.back.specs.TeamBoard.{team_board}
use Rattle.back.specs.declared.TeamBoard.{TeamBoard}
use Rattle.choice.specs.Chosen.{chosen, bytes_of}
use Rattle.choice.specs.Reaching.{choice_to, choice, may, may_not, may_reach, reach_says, reach_leaves, ReachIs}
use Rattle.choice.proofs.Allowed.{teams_allowed}
use Rattle.choosing.specs.Choice.{team_in}
use Rattle.reaching.specs.steps.Puts.{TeamsIn}

-- a team is wanted only in version 2
only_in : (v : Version) (t : Bool) (n : ℤ) → (t ≡ true → v ≡ V2) → team_in v (cond t (Some n) None) ≡ true
only_in v true n h = ap has_ex (h refl)
only_in v false n h = refl

module _ (r : TeamReader) (b : TeamBoard) (u : ℤ) (e : may_reach r b ≡ may) (t : b.board.tick ≡ Some u) where
  may_there : may_reach r (team_board (board (Some u) b.board.entries) b.teams) ≡ may
  may_there = ap (λ (x : Option ℤ). may_reach r (team_board (board x b.board.entries) b.teams)) (sym t) ∙ e

  pub teams_in_law : TeamsIn r.reader.scalars.version b.teams
  teams_in_law c h =
      only_in r.reader.scalars.version (has_team b.teams c) (number_of b.teams c)
      ((teams_allowed r u b.board.entries b.teams may_there).version c h)

-- ---- the whole answer

module _ (r : TeamReader) (b : TeamBoard) (xs : List ℕ) where
  pub reach_refused : (why : Refusal) → may_reach r b ≡ may_not why → ReachIs r b xs (Err why) xs
  reach_refused why e =
      record {
        answer = ap (λ m. reach_says m xs (choice r b)) (sym e);
        target = ap (λ m. reach_leaves m xs (choice r b)) (sym e);
      }

  pub reach_done : (u : ℤ) → may_reach r b ≡ may → b.board.tick ≡ Some u → (w : Result ℕ Refusal) (ys bs : List ℕ)
      → bs ≡ bytes_of (chosen r.reader.scalars r.reader.entries r.teams u b.board.entries b.teams)
      → w ≡ wrote xs 0 bs → ys ≡ written xs 0 bs → ReachIs r b xs w ys
  unfolding choice
  reach_done u e t w ys bs eb ew ey =
      let c : choice r b ≡ bs =
      ap (λ (x : Option ℤ). choice_to r.reader.scalars r.reader.entries r.teams x b.board.entries b.teams) t ∙ sym eb in
      record {
        answer = ap wrote_said ew ∙ writers_say true xs 0 bs ∙ rw (e, c);
        target = ey ∙ rw (e, c);
      }
