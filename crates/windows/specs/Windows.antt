-- A body read through a window of 65,536 bytes: one turn on the bytes at hand, and what is printed of a whole body, whatever is printed of an
-- event. docs/FORMAT.md, "The replay program".
use Rattle.std.specs.Prelude.{ℕ, zero, suc, Bool, true, false, cond, ltb, length, take, ℤ}
use mathlib.Core.List.{List, [], ◌++◌, flat_map}
use Rattle.kinds.specs.declared.Version.{Version}
use Rattle.state.specs.State.{empty_reader}
use Rattle.state.specs.Reading.{Event}
use Rattle.state.specs.declared.Reader.{Reader}
use Rattle.calls.specs.Calls.{Call, Seen}
use Rattle.calls.specs.Along.{along, enough, Halt, is_full, wants_more, finishes, is_refused, Run, calls}
use Rattle.teams.specs.declared.TeamReader.{TeamReader}
use Rattle.many.specs.Many.{team_calls}

-- ---- the window

abbrev pub full : ℕ
full = 65536

-- of the bytes from the reader's place on
abbrev pub window_of : List ℕ → List ℕ
window_of bytes = take full bytes

abbrev pub is_short : List ℕ → Bool
is_short bytes = ltb (length bytes) full

-- only a shorter window can be the last, and only where the input has ended
abbrev pub is_last_window : Bool → List ℕ → Bool
is_last_window ended bytes = cond ended (is_short bytes) false

-- ---- a turn

-- the calls on the bytes at hand
abbrev pub turn_run : ℕ → Reader → List ℕ → Bool → Run
turn_run n reader bytes ended = calls n reader (window_of bytes) (is_last_window ended bytes)

-- the same on a reader with teams
abbrev pub team_turn_run : ℕ → TeamReader → List ℕ → Bool → Run
team_turn_run n reader bytes ended = team_calls n reader (window_of bytes) (is_last_window ended bytes)

-- too long: a full window answers more at once, before any event
abbrev pub too_long : Bool → ℕ → Bool
too_long true n = false
too_long false zero = true
too_long false (suc n) = false

-- whether calls on a window, a short one or a full one, end the reading: by why they stopped and how many events they gave
abbrev pub ends : Bool → Halt → ℕ → Bool
ends short is_full n = false
ends short wants_more n = too_long short n
ends short finishes n = true
ends short (is_refused k vs) n = true

-- a short window that answers more: the program reads on
abbrev pub wants : Bool → Halt → Bool
wants short is_full = false
wants short wants_more = short
wants short finishes = false
wants short (is_refused k vs) = false

-- ---- what is printed

-- how the reading of a body ends
pub data Last : Type 0 where
  finished : Last
  refused_with : ℕ → Last
  window_too_long : Last

-- what is printed of an event, by the ten numbers beside it, and of how the reading ends: bytes, or anything else
pub record Printer (A : Type 0) : Type 0 where
  pub line : Event → List ℤ → List A
  pub last : Last → List A

abbrev pub lines_by : {A : Type 0} → Printer A → List Seen → List A
lines_by p xs = flat_map (λ (x : Seen). p.line x.event x.ten) xs

-- the last line, if calls on a window end the reading
abbrev pub ending_by : {A : Type 0} → Printer A → Bool → Halt → ℕ → List A
ending_by p short is_full n = []
ending_by p short wants_more n = cond (too_long short n) (p.last window_too_long) []
ending_by p short finishes n = p.last finished
ending_by p short (is_refused k vs) n = p.last (refused_with k)

abbrev pub run_by : {A : Type 0} → Printer A → Bool → Run → List A
run_by p short run = lines_by p run.seen ++ ending_by p short run.halt (length run.seen)

-- ---- a whole body

-- what each call sees of the bytes left: the window at its place
abbrev pub window_call : List ℕ → Call
window_call bytes = record { window = window_of bytes; last = is_last_window true bytes }

-- what is printed of what is left of a body, in at most so many calls; the window of a call that answers more is full, and on it no event
-- came
unfoldable pub printed_from : {A : Type 0} → Printer A → ℕ → Reader → List ℕ → List A
printed_from p k r body = let run = along window_call k r body in lines_by p run.seen ++ ending_by p false run.halt 0

-- what is printed of a body
abbrev pub printed_of : {A : Type 0} → Printer A → Version → List ℕ → List A
printed_of p v body = printed_from p (enough body) (empty_reader v) body
