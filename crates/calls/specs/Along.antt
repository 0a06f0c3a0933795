-- Calls along the bytes of a body, each on the reader and at the place that the last one left, while they give events.
use Rattle.std.specs.Prelude.{ℕ, zero, suc, ◌+◌, ◌*◌, Bool, List, [], ◌∷◌, length, drop, ℤ}
use Rattle.item.specs.Said.{Said, gives, more, finish, refuses}
use Rattle.state.specs.Reading.{Event, reader_after}
use Rattle.state.specs.declared.Reader.{Reader}
use Rattle.calls.specs.Calls.{Call, Seen, call, is_pending, seen_by}

-- why there is no further call: no more were wanted, or the answer, which is no event
pub data Halt : Type 0 where
  is_full : Halt
  wants_more : Halt
  finishes : Halt
  is_refused : ℕ → List ℤ → Halt

-- the events, the first first; why the calls stopped, the bytes used in all, the reader left
pub record Run : Type 0 where
  pub seen : List Seen
  pub halt : Halt
  pub used : ℕ
  pub reader : Reader

abbrev pub stopped : Halt → ℕ → Reader → Run
stopped h n r = record { seen = []; halt = h; used = n; reader = r }

abbrev pub before : Seen → Run → Run
before x run = record { seen = x ∷ run.seen; halt = run.halt; used = x.used + run.used; reader = run.reader }

-- an event is followed by what comes after it; any other answer is the last
abbrev pub on_said : Said Event → (Event → ℕ → Run) → Reader → Run
on_said (gives e n) next r = next e n
on_said more next r = stopped wants_more 0 r
on_said (finish n) next r = stopped finishes n r
on_said (refuses k vs) next r = stopped (is_refused k vs) 0 r

-- at most so many calls; `see` says what a call sees of the bytes that are left
unfoldable pub along : (List ℕ → Call) → ℕ → Reader → List ℕ → Run
along see zero r bytes = stopped is_full 0 r
along see (suc k) r bytes =
    let c = see bytes in
    let t = call r c in
    on_said t.said
    (λ e n. before (seen_by (is_pending r.scalars.pending) c.window t e n) (along see k (reader_after t) (drop n bytes)))
    (reader_after t)

-- each call sees all the bytes left, with one flag
abbrev pub all_of : Bool → List ℕ → Call
all_of last bytes = record { window = bytes; last = last }

abbrev pub calls : ℕ → Reader → List ℕ → Bool → Run
calls k r bytes last = along (all_of last) k r bytes

-- so many calls are enough for these bytes, whatever each sees of them
abbrev pub enough : List ℕ → ℕ
enough bytes = 5 * length bytes + 5
