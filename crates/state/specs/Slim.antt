-- A reading call without a command's arguments.
use Rattle.item.specs.Said.{Said, gives, more, finish, refuses, refusing}
use Rattle.item.specs.Own.{own_content}
use Rattle.state.specs.Reading.{
  Event,
  tick_start,
  tick_end,
  player_new,
  player_change,
  player_old,
  input,
  other,
  Step,
  step_of,
}
use Rattle.state.specs.Views.{event_is}
use Rattle.state.specs.declared.Answer.{Answer}
use Rattle.state.specs.declared.Answer.TheVariants as answers

-- an event without the arguments that stand beside a record
abbrev pub slim : Event → Event
slim (tick_start t) = tick_start t
slim (tick_end t) = tick_end t
slim (player_new c x y) = player_new c x y
slim (player_change c x y old-x old-y) = player_change c x y old-x old-y
slim (player_old c x y) = player_old c x y
slim (input c former) = input c former
slim (other c) = other (own_content c)

abbrev pub slim_said : Said Event → Said Event
slim_said (gives e used) = gives (slim e) used
slim_said more = more
slim_said (finish used) = finish used
slim_said (refuses n vs) = refuses n vs

abbrev pub slim_step : Step → Step
slim_step t = step_of (slim_said t.said) t.scalars t.memory

-- what the code answers
abbrev pub said_is : Answer → Said Event
said_is (answers.Event e used) = gives (event_is e) used
said_is answers.More = more
said_is (answers.Finish used) = finish used
said_is (answers.Refused r) = refusing r
