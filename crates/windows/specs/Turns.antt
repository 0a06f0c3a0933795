-- What holds of turns, for any printer, as statements; proofs/Whole.antt, Wants.antt, Bound.antt, EnoughTurns.antt and Teams.antt prove each.
use Rattle.std.specs.Prelude.{ℕ, suc, ◌+◌, ◌≤◌, ◌≡◌, Bool, true, false, cond, List, [], ◌∷◌, ◌++◌, length, take, drop}
use Rattle.item.specs.Said.{more}
use Rattle.kinds.specs.declared.Version.{Version}
use Rattle.state.specs.State.{empty_reader}
use Rattle.state.specs.Reading.{read_call}
use Rattle.state.specs.declared.Reader.{Reader}
use Rattle.calls.specs.Along.{Run, enough}
use Rattle.teams.specs.Laws.{SoundTeams}
use Rattle.teams.specs.declared.TeamReader.{TeamReader}
use Rattle.team_calls.specs.Lists.{teams_over}
use Rattle.windows.specs.Windows.{is_short, turn_run, team_turn_run, ends, wants, Printer, run_by, printed_from, printed_of}

-- ---- a turn on what has arrived of what is left of a body

-- so many of its bytes, and more may come; or all, and the input has ended
pub data Arrived : Type 0 where
  some : ℕ → Arrived
  all : Arrived

abbrev pub at_hand : Arrived → List ℕ → List ℕ
at_hand (some n) body = take n body
at_hand all body = body

abbrev pub has_ended : Arrived → Bool
has_ended (some n) = false
has_ended all = true

-- room for one event and so many more, and what has arrived
pub record Turn : Type 0 where
  pub room : ℕ
  pub arrived : Arrived

abbrev pub run_of : Turn → Reader → List ℕ → Run
run_of t r body = turn_run (suc t.room) r (at_hand t.arrived body) (has_ended t.arrived)

abbrev pub short : Turn → List ℕ → Bool
short t body = is_short (at_hand t.arrived body)

abbrev pub turn_by : {A : Type 0} → Printer A → Turn → Reader → List ℕ → List A
turn_by p t r body = run_by p (short t body) (run_of t r body)

-- whether it ends the reading
abbrev pub over : Turn → Reader → List ℕ → Bool
over t r body = ends (short t body) (run_of t r body).halt (length (run_of t r body).seen)

-- a turn prints what is printed from there on: with the last line, or up to where the next turn goes on
abbrev pub TurnPrints : {A : Type 0} → Printer A → Type 0
TurnPrints p =
    (t : Turn) (k : ℕ) (r : Reader) (body : List ℕ) → let run = run_of t r body in
    printed_from p (length run.seen + suc k) r body
    ≡ turn_by p t r body ++ cond (over t r body) [] (printed_from p (suc k) run.reader (drop run.used body))

-- it wants more bytes only where more may come, and where a call on all that is at hand and not used answers more: no line is held back
abbrev pub WantsAtMore : Type 0
WantsAtMore =
    (t : Turn) (r : Reader) (body : List ℕ) → let run = run_of t r body in
    wants (short t body) run.halt ≡ true
    → (has_ended t.arrived ≡ false) × ((read_call run.reader (drop run.used (at_hand t.arrived body)) false).said ≡ more)

-- ---- turns one behind the other, each on what has arrived of the bytes left

unfoldable pub turns_by : {A : Type 0} → Printer A → List Turn → Reader → List ℕ → List A
turns_by p [] r body = []
turns_by p (t ∷ ts) r body =
    let run = run_of t r body in
    turn_by p t r body ++ cond (over t r body) [] (turns_by p ts run.reader (drop run.used body))

-- whether one of them ends the reading
unfoldable pub turns_end : List Turn → Reader → List ℕ → Bool
turns_end [] r body = false
turns_end (t ∷ ts) r body =
    let run = run_of t r body in
    cond (over t r body) true (turns_end ts run.reader (drop run.used body))

-- a text is all that is printed: so many calls print it, and more calls print no more
pub record AllPrinted {A : Type 0} (p : Printer A) (r : Reader) (body : List ℕ) (text : List A) : Type 0 where
  pub calls : ℕ
  pub same : (k : ℕ) → printed_from p (calls + suc k) r body ≡ text

-- turns of which one ends the reading print exactly what is printed, whatever room they had and in whatever pieces the body arrived
abbrev pub TurnsPrintAll : {A : Type 0} → Printer A → Type 0
TurnsPrintAll p =
    (ts : List Turn) (r : Reader) (body : List ℕ) → turns_end ts r body ≡ true → AllPrinted p r body (turns_by p ts r body)

-- from the empty reader on, they print what is printed of the body
abbrev pub TurnsPrint : {A : Type 0} → Printer A → Type 0
TurnsPrint p =
    (v : Version) (ts : List Turn) (body : List ℕ) → turns_end ts (empty_reader v) body ≡ true
    → turns_by p ts (empty_reader v) body ≡ printed_of p v body

-- how many of them have all the bytes
unfoldable pub have_all : List Turn → ℕ
have_all [] = 0
have_all (t ∷ ts) = cond (has_ended t.arrived) (suc (have_all ts)) (have_all ts)

-- enough turns that have all the bytes end the reading
abbrev pub EnoughTurns : Type 0
EnoughTurns = (ts : List Turn) (r : Reader) (body : List ℕ) → enough body ≤ have_all ts → turns_end ts r body ≡ true

-- ---- a turn with teams

-- teams that are not refused 17 change nothing of it, and those after its events are such teams
pub record TeamsBeside (n : ℕ) (r : TeamReader) (bytes : List ℕ) (ended : Bool) : Type 0 where
  pub same : team_turn_run n r bytes ended ≡ turn_run n r.reader bytes ended
  pub sound : SoundTeams (teams_over r.teams (team_turn_run n r bytes ended).seen)

abbrev pub TurnsWithTeams : Type 0
TurnsWithTeams = (n : ℕ) (r : TeamReader) (bytes : List ℕ) (ended : Bool) → SoundTeams r.teams → TeamsBeside n r bytes ended
