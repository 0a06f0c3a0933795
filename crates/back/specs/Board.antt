-- The board: the started tick or none, positions, inputs. docs/FORMAT.md, "Stepping back".
use Rattle.std.specs.Prelude.{Bool, true, false, ◌&&◌, ℤ, Option, Some, None}
use Rattle.std.specs.Int.Signed.{non_neg}
use Rattle.state.specs.State.{good_entries}
use Rattle.state.specs.declared.Entries.{Entries}
use Rattle.state.specs.declared.Reader.{Reader}
use Rattle.back.specs.declared.Board.{Board}

abbrev pub board : Option ℤ → Entries → Board
board t e = record { tick = t; entries = e }

abbrev pub tick_of : Bool → ℤ → Option ℤ
tick_of true t = Some t
tick_of false t = None

-- the board of a reader: its tick if it is inside one
unfoldable pub board_of : Reader → Board
board_of r = board (tick_of r.scalars.inside r.scalars.tick) r.entries

-- of a board without a tick no tick is looked at
abbrev pub good_tick : Option ℤ → Bool
good_tick (Some t) = non_neg t
good_tick None = true

unfoldable pub good_board : Board → Bool
good_board b = good_tick b.tick && good_entries b.entries
