-- `many::read_rows` meets its contract. Assumes nothing.
use Prim.Native.Nat.{◌-◌}
use Rattle.state.specs.State.{reader_with}
use Rattle.calls.specs.Along.{calls}
use Rattle.many.proofs.Turns.{Going}
use Rattle.many.proofs.read_rows.Given as goal

abbrev pub invariant-loop-count : goal.invariant-loop-count
invariant-loop-count l =
    Going (calls l.room (reader_with l.initial.s l.initial.m.entries) l.w l.last) l.room l.w l.last l.initial.teams l.initial.rows l.initial.tens l.s l.m l.count l.used l.teams l.rows l.tens

abbrev pub decreases-loop-count : goal.decreases-loop-count
decreases-loop-count l =
    l.room - l.count
