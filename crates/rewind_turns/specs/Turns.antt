-- The rewind program on the bytes at hand: one turn of reading with a reel beside. docs/FORMAT.md, "The rewind program".
use Rattle.std.specs.Prelude.{ℕ, ◌≡◌, Bool, true, false, ◌||◌, List, length, ℤ}
use Rattle.teams.specs.Teams.{team_reader}
use Rattle.teams.specs.declared.TeamReader.{TeamReader}
use Rattle.calls.specs.Along.{Halt, is_full, wants_more, finishes, is_refused, Run}
use Rattle.team_calls.specs.Lists.{teams_over, with_formers}
use Rattle.windows.specs.Windows.{window_of, is_short, is_last_window, ends, wants}
use Rattle.reel.specs.declared.Reel.{Reel}
use Rattle.reeling.specs.Reeling.{keep_all, kept_calls}
use Rattle.rewind_turns.specs.declared.ReelTurn.{ReelTurn}

-- at most so many events of the calls that the window at the front of the bytes at hand allows
abbrev pub turn_kept : ℕ → TeamReader → Reel → List ℕ → Bool → Run
turn_kept most r l bytes ended = kept_calls most r l (window_of bytes) (is_last_window ended bytes)

abbrev pub has_all : Halt → Bool
has_all is_full = true
has_all wants_more = false
has_all finishes = false
has_all (is_refused k vs) = false

-- the turn is a run's on bytes at hand, with the teams t₀ before it, whose events the reel has kept; nothing follows if all events that were
-- wanted came, or the reading ends
pub record KeepsTurn (bytes : List ℕ) (run : Run) (t₀ : List ℤ) (l₀ : Reel) (r : ReelTurn) (l₁ : Reel) : Type 0 where
  pub left : r.reader ≡ team_reader run.reader (teams_over t₀ run.seen)
  pub used : r.used ≡ run.used
  pub count : r.count ≡ length run.seen
  pub over : r.over ≡ (has_all run.halt || ends (is_short bytes) run.halt (length run.seen))
  pub wants : r.wants ≡ wants (is_short bytes) run.halt
  pub reel : l₁ ≡ keep_all l₀ (with_formers t₀ run.seen)
