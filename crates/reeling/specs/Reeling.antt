-- Reading calls with a reel beside, which keeps each of their events. docs/FORMAT.md, "The reel".
use Rattle.std.specs.Prelude.{ℕ, ◌≡◌, Bool, cond, List, [], ◌∷◌, length, ℤ}
use Rattle.refusal.specs.declared.Refusal.TheVariants.{BadState}
use Rattle.teams.specs.Teams.{team_reader}
use Rattle.teams.specs.declared.TeamReader.{TeamReader}
use Rattle.calls.specs.Calls.{Call}
use Rattle.calls.specs.Along.{Run}
use Rattle.team_calls.specs.Lists.{TeamSeen, next_team, team_event_of, teams_over, with_formers}
use Rattle.many.specs.Many.{refused_by, many_calls, halt_of}
use Rattle.reel.specs.Reel.{good_reel, keep}
use Rattle.reel.specs.declared.Reel.{Reel}
use Rattle.reeling.specs.declared.ReelRead.{ReelRead}

-- events kept, the first first
unfoldable pub keep_all : Reel → List TeamSeen → Reel
keep_all l [] = l
keep_all l (x ∷ xs) = keep_all (keep l x.seen.event x.seen.ten x.seen.former x.team) xs

-- ---- beside any list of calls, from a reader on

unfoldable pub reel_after : Reel → TeamReader → List Call → Reel
reel_after l r [] = l
reel_after l r (c ∷ cs) = reel_after (keep_all l (team_event_of r c)) (next_team r c) cs

-- ---- many calls in one

-- at most so many calls; a bad reel is refused 17 as a bad reader is
abbrev pub kept_calls : ℕ → TeamReader → Reel → List ℕ → Bool → Run
kept_calls k r l w last = cond (good_reel l) (many_calls k r w last) (refused_by BadState r.reader)

-- the answer and the reader are those of a run, with the teams t₀ before it, and the reel has kept its events
pub record KeptIs (run : Run) (t₀ : List ℤ) (l₀ : Reel) (r : ReelRead) (l₁ : Reel) : Type 0 where
  pub halt : halt_of r.stop ≡ run.halt
  pub count : r.count ≡ length run.seen
  pub used : r.used ≡ run.used
  pub left : r.reader ≡ team_reader run.reader (teams_over t₀ run.seen)
  pub reel : l₁ ≡ keep_all l₀ (with_formers t₀ run.seen)
