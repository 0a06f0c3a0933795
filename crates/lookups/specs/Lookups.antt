-- The position and the ten input numbers of a client, or none. docs/FORMAT.md, "Ticks and the board".
use Rattle.std.specs.Prelude.{cond, List, ℤ, pos, negsuc, Option, Some, None}
use Rattle.state.specs.State.{present, x_of, y_of, holds, ten_of}
use Rattle.state.specs.declared.Entries.{Entries}
use Rattle.lookups.specs.declared.Pos.{Pos}

abbrev pub pos_of : Entries → ℤ → Option Pos
pos_of e (pos c) = cond (present e c) (Some (record { x = x_of e c; y = y_of e c })) None
pos_of e (negsuc c) = None

abbrev pub input_for : Entries → ℤ → Option (List ℤ)
input_for e (pos c) = cond (holds e c) (Some (ten_of e.inputs c)) None
input_for e (negsuc c) = None
