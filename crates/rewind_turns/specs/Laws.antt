-- What turns one behind the other come to, as statements; proofs/Theorems.antt proves each. docs/FORMAT.md, "The rewind program".
use Rattle.std.specs.Prelude.{ℕ, ◌≡◌, Bool, cond, List, [], ◌∷◌, ℤ}
use Rattle.refusal.specs.declared.Refusal.TheVariants.{Closed}
use Rattle.kinds.specs.declared.Version.{Version}
use Rattle.teams.specs.Teams.{team_reader, empty_team_reader}
use Rattle.teams.specs.Laws.{SoundTeams}
use Rattle.teams.specs.declared.TeamReader.{TeamReader}
use Rattle.calls.specs.Calls.{Call}
use Rattle.team_calls.specs.Lists.{team_after, teams_over, with_formers}
use Rattle.back.specs.TeamBoard.{refused}
use Rattle.reel.specs.Reel.{empty_reel}
use Rattle.reel.specs.declared.Reel.{Reel}
use Rattle.reeling.specs.Reeling.{keep_all, reel_after}
use Rattle.rewinding.specs.Rewinding.{closed_by_refusal, rewind_to}
use Rattle.rewind_laws.specs.Laws.{had_after, if_among512}
use Rattle.rewind_turns.specs.Turns.{turn_kept}

-- what a turn begins with: the bytes at hand, whether the input has ended, and how many events are wanted at most
pub record Hand : Type 0 where
  pub bytes : List ℕ
  pub ended : Bool
  pub most : ℕ

-- reader and reel after turns, each on those that the last one left
pub record Left : Type 0 where
  pub reader : TeamReader
  pub reel : Reel

unfoldable pub turns_after : Left → List Hand → Left
turns_after s [] = s
turns_after s (h ∷ hs) =
    let run = turn_kept h.most s.reader s.reel h.bytes h.ended in
    let t = s.reader.teams in
    turns_after
    (record { reader = team_reader run.reader (teams_over t run.seen); reel = keep_all s.reel (with_formers t run.seen) }) hs

-- they are those after a list of calls with a reel beside
pub record AreCalls (from to : Left) : Type 0 where
  pub list : List Call
  pub left : team_after from.reader list ≡ to.reader
  pub reel : reel_after from.reel from.reader list ≡ to.reel

abbrev pub TurnsAreCalls : Type 0
TurnsAreCalls = (hs : List Hand) (s : Left) → SoundTeams s.reader.teams → AreCalls s (turns_after s hs)

-- so after whatever turns from an empty reader and an empty reel a rewind gives the board that reading had, or is refused, as rewinding beside a
-- reader does
pub record RewindsThere (v : Version) (t : ℤ) (s : Left) : Type 0 where
  pub list : List Call
  pub left : team_after (empty_team_reader v) list ≡ s.reader
  pub rewinds : rewind_to s.reader s.reel t
      ≡ cond (closed_by_refusal s.reader.reader.scalars.standing) (refused Closed) (if_among512 (had_after t (empty_team_reader v) list))

abbrev pub TurnsRewind : Type 0
TurnsRewind =
    (v : Version) (hs : List Hand) (t : ℤ) → RewindsThere v t (turns_after (record { reader = empty_team_reader v; reel = empty_reel }) hs)
