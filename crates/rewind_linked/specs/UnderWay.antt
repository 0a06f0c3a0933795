-- A rewind under way by calls for C and Rust programs: its own reel, its copy and its numbers stand in arrays of theirs. docs/FORMAT.md, "A rewind
-- under way".
use Rattle.std.specs.Prelude.{ℕ, ◌≡◌, Bool, not, cond, List, get_or, set, ℤ, pos, negsuc, Option, Some, None}
use Rattle.refusal.specs.Numbers.{number_of}
use Rattle.kinds.specs.declared.Version.{Version}
use Rattle.state.specs.State.{same_int}
use Rattle.state.specs.declared.Entries.{Entries}
use Rattle.back.specs.Board.{board}
use Rattle.back.specs.TeamBoard.{team_board}
use Rattle.reel.specs.Reel.{flag, counts_of, reel_of}
use Rattle.reel.specs.declared.Counts.{Counts}
use Rattle.reeling.specs.Reeling.{keep_all}
use Rattle.going.specs.Going.{progress_of, rewind_of, start_rewind, go_on}
use Rattle.going.specs.declared.Rewind.{Rewind}
use Rattle.going.specs.declared.StartAnswer.{StartAnswer}
use Rattle.going.specs.declared.StartAnswer.TheVariants as starts
use Rattle.going.specs.declared.Start.{Start}
use Rattle.going.specs.declared.GoAnswer.{GoAnswer}
use Rattle.going.specs.declared.GoAnswer.TheVariants as answers
use Rattle.rewind_linked.specs.Linked.{body_events, body_reader, no_rows}

-- ---- numbers for C and Rust programs

-- a board's tick, -1 outside one
abbrev pub tick_number : Option ℤ → ℤ
tick_number (Some t) = t
tick_number None = negsuc 0

-- any number but -1 is a tick: another negative one is refused 17
abbrev pub tick_in : ℤ → Option ℤ
tick_in z = cond (same_int z (negsuc 0)) None (Some z)

-- any number but 0 says that an event didn't fit
abbrev pub flag_in : ℤ → Bool
flag_in z = not (same_int z (pos 0))

-- the own reel's next place and count, and how many of its rows are newer than its TickStart
abbrev pub three_with : List ℕ → Counts → ℕ → List ℕ
three_with three c newer = set (set (set three 0 c.next) 1 c.count) 2 newer

-- the copy's tick, and 1 or 0 for whether an event didn't fit
abbrev pub two_with : List ℤ → Option ℤ → Bool → List ℤ
two_with two t misfit = set (set two 0 (tick_number t)) 1 (flag misfit)

-- ---- starting

-- 0, or the number of the refusal
abbrev pub start_number : StartAnswer → ℕ
start_number starts.Started = 0
start_number (starts.Refused r) = number_of r

-- a start after the body was read whole with a reel beside
abbrev pub start_in : Version → List ℕ → ℤ → List ℤ → List ℤ → List ℤ → Start
start_in v body t rows inputs formers = start_rewind (body_reader v body) (keep_all (no_rows rows inputs formers) (body_events v body)) t

-- the answer's number, the entries and teams of the copy and the numbers of the rewind. The reel and its counts are always what reading left: the
-- rewind's own once it is started; in a refusal, where the rewind is blank, they are that too
pub record StartsRewind (v : Version) (body : List ℕ) (t : ℤ) (rows₀ inputs₀ formers₀ : List ℤ) (three₀ : List ℕ) (two₀ : List ℤ) (r : ℕ)
    (rows₁ inputs₁ formers₁ : List ℤ) (e : Entries) (m : List ℤ) (three₁ : List ℕ) (two₁ : List ℤ) : Type 0 where
  pub counts : Counts
  pub reel : reel_of counts rows₁ inputs₁ formers₁ ≡ keep_all (no_rows rows₀ inputs₀ formers₀) (body_events v body)
  pub answer : r ≡ start_number (start_in v body t rows₀ inputs₀ formers₀).answer
  pub copy : e ≡ (start_in v body t rows₀ inputs₀ formers₀).rewind.board.board.entries
  pub teams : m ≡ (start_in v body t rows₀ inputs₀ formers₀).rewind.board.teams
  pub three : three₁ ≡ three_with three₀ counts (start_in v body t rows₀ inputs₀ formers₀).rewind.progress.newer
  pub two : let w = (start_in v body t rows₀ inputs₀ formers₀).rewind in two₁ ≡ two_with two₀ w.board.board.tick w.progress.misfit

-- ---- going on

-- 0 for ended, 255 for going, or the number of the refusal
abbrev pub go_number : GoAnswer → ℕ
go_number answers.Ended = 0
go_number answers.Going = 255
go_number (answers.Refused r) = number_of r

-- the rewind to a tick that the arrays hold
abbrev pub under_way : ℤ → List ℤ → List ℤ → List ℤ → Entries → List ℤ → List ℕ → List ℤ → Rewind
under_way t rows inputs formers e m three two =
    rewind_of (team_board (board (tick_in (get_or two 0 (pos 0))) e) m) (reel_of (counts_of (get_or three 0 0) (get_or three 1 0)) rows inputs formers)
    (progress_of t (get_or three 2 0) (flag_in (get_or two 1 (pos 0))))

-- what going on by so many events answers and leaves
pub record GoesOn (w : Rewind) (events : ℕ) (three₀ : List ℕ) (two₀ : List ℤ) (r : ℕ) (e : Entries) (m : List ℤ) (three₁ : List ℕ) (two₁ : List ℤ)
    : Type 0 where
  pub answer : r ≡ go_number (go_on w events).answer
  pub copy : e ≡ (go_on w events).rewind.board.board.entries
  pub teams : m ≡ (go_on w events).rewind.board.teams
  pub three : let left = (go_on w events).rewind in three₁ ≡ three_with three₀ left.reel.counts left.progress.newer
  pub two : let left = (go_on w events).rewind in two₁ ≡ two_with two₀ left.board.board.tick left.progress.misfit
