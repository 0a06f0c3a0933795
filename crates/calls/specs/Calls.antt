-- Reading calls one behind the other: any list of calls. specs/Along.antt has calls along the bytes of a body. docs/FORMAT.md, "What a call may say".
use Rattle.std.specs.Prelude.{ℕ, Bool, true, false, List, [], ◌∷◌, ◌++◌, ℤ, Option, Some, None}
use Rattle.kinds.specs.declared.Kind.{Kind}
use Rattle.item.specs.Said.{Said, gives, more, finish, refuses}
use Rattle.state.specs.Reading.{Event, Step, read_call, reader_after}
use Rattle.state.specs.declared.Reader.{Reader}

-- ---- a call, and the event that it may give

pub record Call : Type 0 where
  pub window : List ℕ
  pub last : Bool

abbrev pub call : Reader → Call → Step
call r c = read_call r c.window c.last

abbrev pub next : Reader → Call → Reader
next r c = reader_after (call r c)

-- an event that a call gave: the call's window, of which it used so many bytes; whether the kind was pending before; the ten numbers and
-- the former ten beside it
pub record Seen : Type 0 where
  pub event : Event
  pub window : List ℕ
  pub used : ℕ
  pub pending : Bool
  pub ten : List ℤ
  pub former : List ℤ

abbrev pub is_pending : Option Kind → Bool
is_pending (Some k) = true
is_pending None = false

abbrev pub seen_by : Bool → List ℕ → Step → Event → ℕ → Seen
seen_by pending w t e n =
    record { event = e; window = w; used = n; pending = pending; ten = t.memory.input; former = t.memory.former }

-- more, finish and a refusal give no event
abbrev pub seen_in : Said Event → (Event → ℕ → Seen) → List Seen
seen_in (gives e n) by = by e n ∷ []
seen_in more by = []
seen_in (finish n) by = []
seen_in (refuses n vs) by = []

-- ---- a list of calls, each on the reader that the last one left

-- the event of a call, if it gives one
abbrev pub event_of : Reader → Call → List Seen
event_of r c = seen_in (call r c).said (seen_by (is_pending r.scalars.pending) c.window (call r c))

-- the reader after the calls; their events, the last first
unfoldable pub after : Reader → List Call → Reader
after r [] = r
after r (c ∷ cs) = after (next r c) cs

unfoldable pub events : Reader → List Call → List Seen
events r [] = []
events r (c ∷ cs) = events (next r c) cs ++ event_of r c
