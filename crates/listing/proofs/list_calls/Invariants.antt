-- `listing::list_calls` meets its contract. Assumes nothing.
use Rattle.state.specs.State.{reader_with}
use Rattle.results.specs.Results.{results_with}
use Rattle.listing.specs.Listing.{whole_run}
use Rattle.listing.proofs.Turns.{measure, Going}
use Rattle.listing.proofs.list_calls.Given as goal

abbrev pub invariant-loop-used : goal.invariant-loop-used
invariant-loop-used l =
    Going (whole_run (reader_with l.initial.s l.initial.m.entries) l.w l.last) l.w l.last (results_with l.initial.listed l.initial.times l.initial.ticks l.others)
    (reader_with l.initial.s l.initial.m.entries) l.s l.m
    (results_with l.listed l.times l.ticks l.count) l.used l.gave

abbrev pub decreases-loop-used : goal.decreases-loop-used
decreases-loop-used l =
    measure l.w l.used l.s
