-- What holds of reading with a reel beside, as statements; proofs/Theorems.antt proves each.
use Rattle.std.specs.Prelude.{ℕ, ◌≡◌, Bool, List, map, take}
use Rattle.teams.specs.Teams.{team_reader}
use Rattle.teams.specs.Laws.{SoundTeams}
use Rattle.teams.specs.declared.TeamReader.{TeamReader}
use Rattle.calls.specs.Calls.{Call}
use Rattle.calls.specs.Along.{Run, along}
use Rattle.calls.specs.Laws.{last_first}
use Rattle.team_calls.specs.Lists.{TeamSeen, team_after, team_events, teams_over, with_formers, formers_so_far}
use Rattle.back.specs.Undo.{undo_of}
use Rattle.reel.specs.Reel.{Row, row, rows_of, empty_reel}
use Rattle.reel.specs.Laws.{SoundReel}
use Rattle.reel.specs.declared.Reel.{Reel}
use Rattle.reeling.specs.Reeling.{keep_all, reel_after, kept_calls}

abbrev pub row_of : TeamSeen → Row
row_of x = row (undo_of x.seen.event x.team) x.seen.ten x.seen.former

-- an empty reel beside calls holds the last 512 of their events, the newest first, whatever the reader they begin on
pub record HoldsLast (r : TeamReader) (cs : List Call) : Type 0 where
  pub sound : SoundReel (reel_after empty_reel r cs)
  pub holds : rows_of (reel_after empty_reel r cs) ≡ take 512 (map row_of (team_events r cs))

abbrev pub ReelHoldsLast : Type 0
ReelHoldsLast = (r : TeamReader) (cs : List Call) → HoldsLast r cs

-- a run with a reel beside is a list of calls with a reel beside
pub record IsKeptList (l : Reel) (r : TeamReader) (run : Run) : Type 0 where
  pub list : List Call
  pub left : team_after r list ≡ team_reader run.reader (teams_over r.teams run.seen)
  pub same : team_events r list ≡ formers_so_far r.teams (last_first run.seen)
  pub reel : reel_after l r list ≡ keep_all l (with_formers r.teams run.seen)

abbrev pub KeptRunsAreLists : Type 0
KeptRunsAreLists =
    (see : List ℕ → Call) (k : ℕ) (l : Reel) (r : TeamReader) (bytes : List ℕ) → SoundTeams r.teams
    → IsKeptList l r (along see k r.reader bytes)

-- so is a call that reads with a reel beside, a refused one too
abbrev pub KeptCallsAreLists : Type 0
KeptCallsAreLists =
    (k : ℕ) (l : Reel) (r : TeamReader) (w : List ℕ) (last : Bool) → SoundTeams r.teams → IsKeptList l r (kept_calls k r l w last)
