-- The room that bytes leave, if they can be written.
use Rattle.std.specs.Prelude.{ℕ, ◌-◌, Bool, cond, leb}
use Rattle.record_writer.specs.declared.Left.{Left}
use Rattle.record_writer.specs.declared.Left.TheVariants.{Room, Short, Unwritable}

-- after n bytes
abbrev pub room_after : Left → ℕ → Left
room_after (Room m) n = cond (leb n m) (Room (m - n)) Short
room_after Short n = Short
room_after Unwritable n = Unwritable

abbrev pub left_after : Left → Bool → ℕ → Left
left_after l ok n = cond ok (room_after l n) Unwritable

-- the room from a place to an end
abbrev pub room_at : ℕ → ℕ → Left
room_at len at = cond (leb at len) (Room (len - at)) Short
