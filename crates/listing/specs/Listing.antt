-- A results list built beside a reader: all the reading calls that a window allows, and the finishes among their events. docs/FORMAT.md,
-- "The results list".
use Rattle.std.specs.Prelude.{ℕ, Bool, true, false, cond, List, [], ◌∷◌, map}
use Rattle.refusal.specs.Numbers.{number_of, values_of}
use Rattle.refusal.specs.declared.Refusal.TheVariants.{BadState}
use Rattle.state.specs.Reading.{Event}
use Rattle.state.specs.declared.Reader.{Reader}
use Rattle.calls.specs.Calls.{Seen}
use Rattle.calls.specs.Along.{Halt, wants_more, finishes, is_refused, Run, calls, enough}
use Rattle.results.specs.Results.{Finish, finishes_in, keep, fits}
use Rattle.results.specs.declared.Results.{Results}
use Rattle.listing.specs.declared.End.{End}
use Rattle.listing.specs.declared.End.TheVariants as ends
use Rattle.listing.specs.declared.ListRead.{ListRead}

-- ---- the finishes of a run

-- calls on a window until one gives no event
abbrev pub whole_run : Reader → List ℕ → Bool → Run
whole_run r w last = calls (enough w) r w last

abbrev pub events_of : List Seen → List Event
events_of xs = map (λ (x : Seen). x.event) xs

-- the tick that is open is the reader's, then the last one that started
abbrev pub finishes_of : Reader → Run → List Finish
finishes_of r run = finishes_in r.scalars.tick (events_of run.seen)

-- ---- a call

-- why the calls stopped, whether one gave an event, the bytes used in all, the list and the reader left
pub record ListRun : Type 0 where
  pub halt : Halt
  pub gave : Bool
  pub used : ℕ
  pub list : Results
  pub reader : Reader

abbrev pub some_seen : List Seen → Bool
some_seen [] = false
some_seen (x ∷ xs) = true

-- the list takes the finishes of a run; where its count can't rise that far, the whole call is refused 17 and changes nothing
abbrev pub list_run : Results → Reader → Run → ListRun
list_run l r run =
    let after = keep l (finishes_of r run) in
    cond (fits after)
    (record { halt = run.halt; gave = some_seen run.seen; used = run.used; list = after; reader = run.reader })
    (record { halt = is_refused (number_of BadState) (values_of BadState); gave = false; used = 0; list = l; reader = r })

-- what the code answers
abbrev pub halt_of : End → Halt
halt_of ends.More = wants_more
halt_of ends.Finish = finishes
halt_of (ends.Refused r) = is_refused (number_of r) (values_of r)

abbrev pub said_run : ListRead → ListRun
said_run a = record { halt = halt_of a.end; gave = a.gave; used = a.used; list = a.list; reader = a.reader }
