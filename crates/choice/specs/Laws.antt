-- What holds of the choice of records, as statements; proofs/Theorems.antt proves each. docs/FORMAT.md, "From a wanted board to a recording".
use Rattle.std.specs.Prelude.{ℕ, ◌≤◌, ◌≡◌, true, false, List, [], length, get_or, ℤ, pos, Some}
use Rattle.std.specs.Int.{w32}
use Rattle.std.proofs.Common.{SFits}
use Rattle.refusal.specs.Said.{refusing}
use Rattle.refusal.specs.declared.Refusal.TheVariants.{ShortTarget}
use Rattle.kinds.specs.declared.Version.{Version}
use Rattle.kinds.specs.declared.Version.TheVariants.{V1}
use Rattle.state.specs.Laws.{Sizes}
use Rattle.state.specs.declared.Entries.{Entries}
use Rattle.teams.specs.Teams.{has_team, empty_team_reader}
use Rattle.teams.specs.Laws.{SoundTeams}
use Rattle.teams.specs.declared.TeamReader.{TeamReader}
use Rattle.calls.specs.Calls.{Call}
use Rattle.team_calls.specs.Lists.{team_after}
use Rattle.back.specs.Board.{board}
use Rattle.back.specs.TeamBoard.{team_board, team_board_of}
use Rattle.back.specs.declared.TeamBoard.{TeamBoard}
use Rattle.choice.specs.Reaching.{cant_reach, choice, may, may_reach, reach_says}
use Rattle.leading.specs.Windows.{at, Cut, reads, Leading, Ends}

-- ---- numbers of 32 bits and arrays of their lengths, as in every board that a program holds

pub record Typed (u : ℤ) (w : Entries) (wt : List ℤ) : Type 0 where
  pub tick : SFits w32 u
  pub sizes : Sizes w
  pub xs : (c : ℕ) → SFits w32 (get_or w.xs c (pos 0))
  pub ys : (c : ℕ) → SFits w32 (get_or w.ys c (pos 0))
  pub inputs : (i : ℕ) → SFits w32 (get_or w.inputs i (pos 0))
  pub size : length wt ≡ 256
  pub teams : (i : ℕ) → SFits w32 (get_or wt i (pos 0))

-- tick u, entries w, teams wt
abbrev pub wanted : ℤ → Entries → List ℤ → TeamBoard
wanted u w wt = team_board (board (Some u) w) wt

-- ---- from a reader reached by reading, by any list of calls from an empty one, to a board that isn't refused

abbrev pub OfReached : (TeamReader → TeamBoard → Type 0) → Type 0
OfReached Holds =
    (v : Version) (list : List Call) (u : ℤ) (w : Entries) (wt : List ℤ) → Typed u w wt
    → may_reach (team_after (empty_team_reader v) list) (wanted u w wt) ≡ may → Holds (team_after (empty_team_reader v) list) (wanted u w wt)

-- read in any windows of the chosen bytes, the flag off while bytes follow: each call gives an event, or more where its window cuts a
-- record; when all bytes are used and nothing is pending, the board is exactly the wanted one
abbrev pub ChoiceReaches : Type 0
ChoiceReaches = OfReached (λ r b. (cuts : List Cut) → Leading (λ q. team_board_of q ≡ b) (reads (at r (choice r b)) cuts))

-- and that comes: with all the bytes in each window, after so many calls
abbrev pub ChoiceEnds : Type 0
ChoiceEnds = OfReached (λ r b. Ends (at r (choice r b)))

-- ---- of every reader, reached or not

-- nothing to do gives no bytes
abbrev pub NothingToDo : Type 0
NothingToDo = (r : TeamReader) (u : ℤ) (w : Entries) (wt : List ℤ) → team_board_of r ≡ wanted u w wt → choice r (wanted u w wt) ≡ []

-- no target of 16384 bytes or more is refused 9
abbrev pub TargetSuffices : Type 0
TargetSuffices =
    (r : TeamReader) (b : TeamBoard) (xs : List ℕ) → 16384 ≤ length xs → reach_says (may_reach r b) xs (choice r b) ≡ refusing ShortTarget → ⊥

-- where the tick is below, inputs or a team are missing, a team is wanted in version 1 or a player entry differs behind, no list of reading calls
-- has that board at its end; of a reader in version 1 it is said where nobody has a team, as in every reader reached by reading
abbrev pub NoTeamsIn1 : TeamReader → Type 0
NoTeamsIn1 r = r.reader.scalars.version ≡ V1 → (c : ℕ) → has_team r.teams c ≡ false

abbrev pub CantBeDone : Type 0
CantBeDone =
    (r : TeamReader) (u : ℤ) (w : Entries) (wt : List ℤ) → SoundTeams r.teams → NoTeamsIn1 r
    → cant_reach r.reader.scalars r.reader.entries r.teams u w wt ≡ true → (list : List Call)
    → team_board_of (team_after r list) ≡ wanted u w wt → ⊥

abbrev pub ReachedNoTeamsIn1 : Type 0
ReachedNoTeamsIn1 = (v : Version) (list : List Call) → NoTeamsIn1 (team_after (empty_team_reader v) list)
