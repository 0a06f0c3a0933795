-- What a step back has to know of an event. Of a record that changes no entry that is nothing; the ten numbers of an input and the former
-- ten stand beside it, and so does the former team of a PlayerTeam.
use Rattle.std.specs.Prelude.{[], ◌∷◌, ℤ, Option, None}
use Rattle.packer.specs.declared.Part.{Part}
use Rattle.fields.specs.Fields.{num}
use Rattle.extensions.specs.declared.Extension.TheVariants.{PlayerTeam}
use Rattle.item.specs.Records.{Content, content}
use Rattle.item.specs.declared.Tag.TheVariants as tags
use Rattle.state.specs.Reading.{
  Event,
  tick_start,
  tick_end,
  player_new,
  player_change,
  player_old,
  input,
  other,
}
use Rattle.teams.specs.Teams.{Joining, on_joining, joining_in}
use Rattle.back.specs.declared.Undo.{Undo}
use Rattle.back.specs.declared.Undo.TheVariants.{Start, End, New, Change, Old, Input, Team, Nothing}

abbrev pub undo_joining : Joining → Option ℤ → Undo
undo_joining j m = on_joining (λ c n. Team c n m) Nothing j

abbrev pub undo_of : Event → Option ℤ → Undo
undo_of (tick_start t) m = Start t
undo_of (tick_end t) m = End t
undo_of (player_new c x y) m = New c x y
undo_of (player_change c x y old-x old-y) m = Change c x y old-x old-y
undo_of (player_old c x y) m = Old c x y
undo_of (input c had) m = Input c had
undo_of (other r) m = undo_joining (joining_in r) m

-- a PlayerTeam record
abbrev pub player_team : ℤ → ℤ → Content Part
player_team c n = content (tags.Named PlayerTeam) (num c ∷ num n ∷ [])

-- an event with this undo; of Nothing any other record would do
abbrev pub undone : Undo → Event
undone (Start t) = tick_start t
undone (End t) = tick_end t
undone (New c x y) = player_new c x y
undone (Change c x y old-x old-y) = player_change c x y old-x old-y
undone (Old c x y) = player_old c x y
undone (Input c had) = input c had
undone (Team c n m) = other (player_team c n)
undone Nothing = other (content tags.Other [])

-- the former team beside it
abbrev pub former_in : Undo → Option ℤ
former_in (Start t) = None
former_in (End t) = None
former_in (New c x y) = None
former_in (Change c x y old-x old-y) = None
former_in (Old c x y) = None
former_in (Input c had) = None
former_in (Team c n m) = m
former_in Nothing = None
