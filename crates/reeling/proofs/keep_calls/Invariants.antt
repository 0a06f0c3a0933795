-- `reeling::keep_calls` meets its contract. Assumes nothing.
use Prim.Native.Nat.{◌-◌}
use Rattle.state.specs.State.{reader_with}
use Rattle.calls.specs.Along.{calls}
use Rattle.reel.specs.Reel.{reel_of}
use Rattle.reeling.proofs.Turns.{Going}
use Rattle.reeling.proofs.keep_calls.Given as goal

abbrev pub invariant-loop-count : goal.invariant-loop-count
invariant-loop-count l =
    Going (calls l.most (reader_with l.initial.s l.initial.m.entries) l.w l.last) l.most l.w l.last l.initial.teams (reel_of l.initial.counts l.initial.rows l.initial.tens l.initial.formers) l.s l.m l.teams (reel_of l.counts l.rows l.tens l.formers) l.count l.used

abbrev pub decreases-loop-count : goal.decreases-loop-count
decreases-loop-count l =
    l.most - l.count
