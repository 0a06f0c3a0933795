-- The reach program on the bytes at hand: one turn of reading. docs/FORMAT.md, "The reach program".
use Rattle.std.specs.Prelude.{ℕ, ◌≡◌, false, List, length, ℤ}
use Rattle.teams.specs.Teams.{team_reader}
use Rattle.teams.specs.declared.TeamReader.{TeamReader}
use Rattle.calls.specs.Along.{Run}
use Rattle.team_calls.specs.Lists.{teams_over}
use Rattle.many.specs.Many.{halt_of}
use Rattle.windows.specs.Windows.{is_short, team_turn_run, ends, wants}
use Rattle.reach_turns.specs.declared.Turned.{Turned}

-- at most 512 of the calls that the window at the front of the bytes at hand allows; the flag is off always, since a body may stop anywhere
-- between records
abbrev pub turn_on : TeamReader → List ℕ → Run
turn_on r bytes = team_turn_run 512 r bytes false

-- the turn is a run's on bytes at hand, with the teams t₀ before it
pub record TurnIs (bytes : List ℕ) (run : Run) (t₀ : List ℤ) (t : Turned) : Type 0 where
  pub left : t.reader ≡ team_reader run.reader (teams_over t₀ run.seen)
  pub used : t.used ≡ run.used
  pub halt : halt_of t.stop ≡ run.halt
  pub over : t.over ≡ ends (is_short bytes) run.halt (length run.seen)
  pub wants : t.wants ≡ wants (is_short bytes) run.halt
