-- The ladder program on the bytes at hand: one turn; its list and its text of a whole body. docs/FORMAT.md, "The ladder program".
use Rattle.std.specs.Prelude.{ℕ, ◌+◌, ◌≤◌, ◌≡◌, Bool, true, false, cond, List, ◌++◌, length, take, drop, Result, Ok}
use Rattle.refusal.specs.declared.Refusal.{Refusal}
use Rattle.refusal.specs.Numbers.{number_of}
use Rattle.kinds.specs.declared.Version.{Version}
use Rattle.state.specs.State.{empty_reader}
use Rattle.state.specs.declared.Reader.{Reader}
use Rattle.calls.specs.Along.{Halt, is_full, wants_more, finishes, is_refused, Run, along, enough}
use Rattle.lines.specs.declared.Ending.{Ending}
use Rattle.lines.specs.declared.Ending.TheVariants as endings
use Rattle.windows.specs.Windows.{window_of, is_short, is_last_window, Last, finished, refused_with, window_too_long, window_call}
use Rattle.results.specs.Results.{Finish, bests_below, others_in, no_results, keep}
use Rattle.results.specs.declared.Results.{Results}
use Rattle.ranking.specs.Ranking.{InOrder}
use Rattle.listing.specs.Listing.{whole_run, finishes_of, list_run}
use Rattle.result_lines.specs.ResultLines.{list_text, longest_list, WritesList}
use Rattle.ladder_turns.specs.declared.After.{After}
use Rattle.ladder_turns.specs.declared.After.TheVariants as afters
use Rattle.ladder_turns.specs.declared.ListTurn.{ListTurn}

-- ---- a turn

-- what follows a turn: another, a read, or the end
pub data Next : Type 0 where
  goes_on : Next
  wants_bytes : Next
  ends_as : Last → Next

-- by the window, a short one or a full one, why its calls stopped, and whether one gave an event
abbrev pub next_of : Bool → Halt → Bool → Next
next_of short is_full gave = goes_on
next_of short wants_more gave = cond short wants_bytes (cond gave goes_on (ends_as window_too_long))
next_of short finishes gave = ends_as finished
next_of short (is_refused k vs) gave = ends_as (refused_with k)

-- a read follows
abbrev pub read_follows : Next → Bool
read_follows goes_on = false
read_follows wants_bytes = true
read_follows (ends_as x) = false

-- nothing follows
abbrev pub is_over : Next → Bool
is_over goes_on = false
is_over wants_bytes = false
is_over (ends_as x) = true

-- the list, the reader and the bytes used of a turn, and what follows it
pub record Turned : Type 0 where
  pub list : Results
  pub reader : Reader
  pub used : ℕ
  pub next : Next

-- all the calls that the window at the front of the bytes at hand allows
abbrev pub turn_on : Results → Reader → List ℕ → Bool → Turned
turn_on l r bytes ended =
    let t = list_run l r (whole_run r (window_of bytes) (is_last_window ended bytes)) in
    record { list = t.list; reader = t.reader; used = t.used; next = next_of (is_short bytes) t.halt t.gave }

-- what the code answers
abbrev pub last_is : Ending → Last
last_is endings.Finish = finished
last_is (endings.Refused r) = refused_with (number_of r)
last_is endings.TooLong = window_too_long

abbrev pub next_is : After → Next
next_is afters.GoesOn = goes_on
next_is afters.Wants = wants_bytes
next_is (afters.Ends e) = ends_as (last_is e)

abbrev pub turned_is : ListTurn → Turned
turned_is t = record { list = t.list; reader = t.reader; used = t.used; next = next_is t.after }

-- ---- a whole body

-- the calls of the program: each sees the window at its place
abbrev pub window_run : Version → List ℕ → Run
window_run v body = along window_call (enough body) (empty_reader v) body

abbrev pub ladder_finishes : Version → List ℕ → List Finish
ladder_finishes v body = finishes_of (empty_reader v) (window_run v body)

abbrev pub ladder_list : Version → List ℕ → Results
ladder_list v body = keep no_results (ladder_finishes v body)

-- how it ends: enough calls end, and the window of one that answers more is full
abbrev pub end_of : Halt → Last
end_of is_full = window_too_long
end_of wants_more = window_too_long
end_of finishes = finished
end_of (is_refused k vs) = refused_with k

abbrev pub ladder_last : Version → List ℕ → Last
ladder_last v body = end_of (window_run v body).halt

-- a text that the program may print of a body: the rows in order, where that of equal times is its own
pub record LadderText (v : Version) (body text : List ℕ) : Type 0 where
  pub ordered : List Finish
  pub order : InOrder (bests_below 128 (ladder_finishes v body)) ordered
  pub ending : Ending
  pub last : last_is ending ≡ ladder_last v body
  pub same : text ≡ list_text ordered (others_in (ladder_finishes v body)) ending

-- such a text stands in a target at a place, with room around it; the answer is the place past it
pub record TextAt (v : Version) (body out₀ : List ℕ) (at : ℕ) (r : Result ℕ Refusal) (out₁ : List ℕ) : Type 0 where
  pub text : List ℕ
  pub is : LadderText v body text
  pub answer : r ≡ Ok (at + length text)
  pub target : out₁ ≡ take at out₀ ++ text ++ drop (at + length text) out₀

-- the list of a body and how it ends, written where the longest text fits, are a text that the program may print
abbrev pub ListText : Type 0
ListText =
    (v : Version) (body : List ℕ) (ending : Ending) (out₀ : List ℕ) (at : ℕ) (r : Result ℕ Refusal) (out₁ : List ℕ)
    → last_is ending ≡ ladder_last v body → at + longest_list ≤ length out₀ → WritesList (ladder_list v body) ending out₀ at r out₁
    → TextAt v body out₀ at r out₁
