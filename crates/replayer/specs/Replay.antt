-- The replay program on the bytes at hand: its lines, one turn; and what it prints of a whole body. docs/FORMAT.md, "The replay program".
use Rattle.std.specs.Prelude.{ℕ, ◌-◌, ◌/◌, min, ◌≡◌, Bool, false, List, [], ◌∷◌, ◌++◌, length, drop, ℤ, pos}
use Rattle.kinds.specs.declared.Version.{Version}
use Rattle.teams.specs.Teams.{team_reader}
use Rattle.teams.specs.declared.TeamReader.{TeamReader}
use Rattle.team_calls.specs.Lists.{teams_over, with_formers}
use Rattle.rows.specs.Rows.{rows_from, tens_from, room}
use Rattle.calls.specs.Along.{Halt, Run}
use Rattle.lines.specs.Lines.{line_of, last_line, plain_line, refused_word, longest}
use Rattle.lines.specs.declared.Ending.TheVariants.{Finish, TooLong}
use Rattle.windows.specs.Windows.{is_short, ends, wants, Last, finished, refused_with, window_too_long, Printer, ending_by, run_by, printed_of}
use Rattle.replayer.specs.declared.Turned.{Turned}

-- ---- the text

-- the last line
abbrev pub last_of : Last → List ℕ
last_of finished = last_line Finish
last_of (refused_with k) = plain_line refused_word (pos k ∷ [])
last_of window_too_long = last_line TooLong

-- a line for each event, and the last line
abbrev pub as_text : Printer ℕ
as_text = record { line = line_of; last = last_of }

-- the last line, if calls on a window end the replay
abbrev pub ending_of : Bool → Halt → ℕ → List ℕ
ending_of = ending_by as_text

abbrev pub run_text : Bool → Run → List ℕ
run_text = run_by as_text

-- what the program prints of a body
abbrev pub replay_text : Version → List ℕ → List ℕ
replay_text = printed_of as_text

-- ---- a turn

-- for how many events there is room, where each line and a last one are at their longest
abbrev pub turn_room : List ℤ → List ℤ → List ℕ → ℕ
turn_room rows tens out = min (room rows tens) ((length out - longest) / longest)

-- where there is no room for an event
abbrev pub no_turn : TeamReader → Turned
no_turn r = record { reader = r; used = 0; filled = 0; ended = false; wants = false }

-- the turn is a run's on bytes at hand, with the teams t₀ before it: its text stands in front of the target, and the rest of the target
-- stays; the rows and the tens are the run's
pub record Turns (bytes : List ℕ) (run : Run) (t₀ rows₀ tens₀ : List ℤ) (out₀ : List ℕ) (r : Turned) (rows₁ tens₁ : List ℤ) (out₁ : List ℕ)
    : Type 0 where
  pub left : r.reader ≡ team_reader run.reader (teams_over t₀ run.seen)
  pub used : r.used ≡ run.used
  pub filled : r.filled ≡ length (run_text (is_short bytes) run)
  pub ended : r.ended ≡ ends (is_short bytes) run.halt (length run.seen)
  pub wants : r.wants ≡ wants (is_short bytes) run.halt
  pub out : out₁ ≡ run_text (is_short bytes) run ++ drop (length (run_text (is_short bytes) run)) out₀
  pub rows : rows₁ ≡ rows_from 0 (with_formers t₀ run.seen) rows₀
  pub tens : tens₁ ≡ tens_from 0 (with_formers t₀ run.seen) tens₀
