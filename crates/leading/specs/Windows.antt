-- Bytes read from a reader in any windows of them, the flag off while bytes follow.
use Rattle.std.specs.Prelude.{ℕ, ◌<◌, ◌≡◌, Bool, false, ◌&&◌, List, [], ◌∷◌, length, take, drop, replicate, leb, None}
use Rattle.item.specs.Said.{Said, gives, more, finish, refuses}
use Rattle.state.specs.Reading.{Event}
use Rattle.state.specs.Laws.{used_in}
use Rattle.teams.specs.declared.TeamReader.{TeamReader}
use Rattle.calls.specs.Calls.{Call}
use Rattle.team_calls.specs.Reading.{team_call, team_reader_after}
use Rattle.team_calls.specs.Lists.{call_team}

-- a reader, and the bytes from its place on
pub record At : Type 0 where
  pub reader : TeamReader
  pub bytes : List ℕ

abbrev pub at : TeamReader → List ℕ → At
at r bytes = record { reader = r; bytes = bytes }

-- a window of so many of them, and the flag that is wanted with it
pub record Cut : Type 0 where
  pub size : ℕ
  pub last : Bool

-- the flag is off while bytes follow the window
abbrev pub call_at : List ℕ → Cut → Call
call_at bytes c = record { window = take c.size bytes; last = leb (length bytes) c.size && c.last }

-- after a call, and after several, each on the reader and at the place that the last one left
abbrev pub step : At → Cut → At
step s c = let t = call_team s.reader (call_at s.bytes c) in at (team_reader_after t) (drop (used_in t.step.said) s.bytes)

unfoldable pub reads : At → List Cut → At
reads s [] = s
reads s (c ∷ cs) = reads (step s c) cs

-- all bytes are used, and nothing is pending
pub record Done (s : At) : Type 0 where
  pub used : s.bytes ≡ []
  pub free : s.reader.reader.scalars.pending ≡ None

-- a call gives an event, or more where its window cuts a record: all the bytes give an event, which uses more than the window has; no finish
-- and no refusal
abbrev pub EventOr : Type 0 → Said Event → Type 0
EventOr cut (gives e n) = Unit {0}
EventOr cut more = cut
EventOr cut (finish n) = ⊥
EventOr cut (refuses n vs) = ⊥

abbrev pub GoesOn : At → Cut → Type 0
GoesOn s c =
    EventOr (c.size < used_in (team_call s.reader s.bytes false).step.said) (call_team s.reader (call_at s.bytes c)).step.said

-- whatever the windows: while it isn't done each call goes on, and where it is done the reader is as wanted
pub record Leading (Wanted : TeamReader → Type 0) (s : At) : Type 0 where
  pub goes : (Done s → ⊥) → (c : Cut) → GoesOn s c
  pub ends : Done s → Wanted s.reader

-- with all the bytes in each window, so many calls are enough
abbrev pub whole : List ℕ → Cut
whole bytes = record { size = length bytes; last = false }

pub record Ends (s : At) : Type 0 where
  pub calls : ℕ
  pub done : Done (reads s (replicate calls (whole s.bytes)))
