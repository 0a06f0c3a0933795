-- The finishes of calls come in the readers' ticks. Assumes nothing.
use Prim.Native.Nat.{ℕ, zero, suc}
use mathlib.Core.Path.{◌≡◌, refl}
use mathlib.Core.Bool.{Bool}
use mathlib.Core.List.{List, ◌++◌}
use lib.ListN.{drop}
use lib.IntN.{ℤ}
use Rattle.item.specs.Said.{Said, gives, more, finish, refuses}
use Rattle.state.specs.Reading.{Event, Step, read_call, reader_after}
use Rattle.state.specs.declared.Reader.{Reader}
use Rattle.calls.specs.Along.{along, all_of, calls}
use Rattle.calls.proofs.Runs.{follow}
use Rattle.results.specs.Results.{finish_of, tick_after, finishes_in}
use Rattle.results.proofs.Ticks.{Open, open_now, stays_open, finish_at, call_ticked}
use Rattle.listing.specs.Listing.{events_of}
use Rattle.listed.specs.Laws.{of_event, finishes_at, OpenTick}

module _ (c : ℕ) (r : Reader) (w : List ℕ) (last : Bool) (k : ℤ) (o : Open k r.scalars) where
  abbrev t : Step
  t = read_call r w last

  said_at : (a : Said Event) → t.said ≡ a
      → ((j : ℤ) (n : ℕ) → Open j t.scalars → finishes_in j (events_of (calls c (reader_after t) (drop n w) last).seen) ≡ finishes_at c (reader_after t) (drop n w) last)
      → finishes_in k (events_of (follow (all_of last) c r w a).seen)
      ≡ of_event a (λ e n. finish_of r.scalars.tick e ++ finishes_at c (reader_after t) (drop n w) last)
  unfolding finishes_in
  said_at (gives e n) s again =
      let h = call_ticked r w last e n s in
      (λ i. finish_at k r.scalars t.scalars e h o i ++ again (tick_after k e) n (stays_open k r.scalars t.scalars e h o) i)
  said_at more s again = refl
  said_at (finish n) s again = refl
  said_at (refuses j vs) s again = refl

pub finishes_at_law : (c : ℕ) (r : Reader) (w : List ℕ) (last : Bool) (k : ℤ) → Open k r.scalars
    → finishes_in k (events_of (calls c r w last).seen) ≡ finishes_at c r w last
unfolding along finishes_in finishes_at
finishes_at_law zero r w last k o = refl
finishes_at_law (suc c) r w last k o =
    said_at c r w last k o (read_call r w last).said refl (λ j n p. finishes_at_law c (reader_after (read_call r w last)) (drop n w) last j p)

pub open_tick : OpenTick
open_tick c r w last = finishes_at_law c r w last r.scalars.tick (open_now r.scalars)
