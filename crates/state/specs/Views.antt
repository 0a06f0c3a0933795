-- What the code hands back, as the definitions say it.
use Rattle.item.specs.Contents.{item_of}
use Rattle.state.specs.Reading.{
  Event,
  tick_start,
  tick_end,
  player_new,
  player_change,
  player_old,
  input,
  other,
}
use Rattle.state.specs.declared.Event.TheVariants as events
use Rattle.state.specs.declared.Event as code

abbrev pub event_is : code.Event → Event
event_is (events.TickStart t) = tick_start t
event_is (events.TickEnd t) = tick_end t
event_is (events.PlayerNew c x y) = player_new c x y
event_is (events.PlayerChange c x y old-x old-y) = player_change c x y old-x old-y
event_is (events.PlayerOld c x y) = player_old c x y
event_is (events.Input c former) = input c former
event_is (events.Record i) = other (item_of i)
