-- What a reading call says, with the arguments that stand beside a command.
use Rattle.std.specs.Prelude.{[]}
use Rattle.fields.specs.declared.Args.{Args}
use Rattle.item.specs.Said.{Said, gives, more, finish, refusing}
use Rattle.item.specs.Contents.{item_of, with_beside, no_args, args_in}
use Rattle.item.specs.declared.Item.{Item}
use Rattle.state.specs.Reading.{Event, other}
use Rattle.state.specs.Views.{event_is}
use Rattle.state.specs.declared.Event as code
use Rattle.state.specs.declared.Event.TheVariants as events
use Rattle.state.specs.declared.Answer.{Answer}
use Rattle.state.specs.declared.Answer.TheVariants as answers

-- by a record, or by any other event
abbrev pub on_record : {A : Type 0} → code.Event → A → (Item → A) → A
on_record (events.TickStart t) x f = x
on_record (events.TickEnd t) x f = x
on_record (events.PlayerNew c px py) x f = x
on_record (events.PlayerChange c px py old-x old-y) x f = x
on_record (events.PlayerOld c px py) x f = x
on_record (events.Input c former) x f = x
on_record (events.Record i) x f = f i

abbrev pub said_with : Answer → Args → Said Event
said_with (answers.Event e used) xs = gives (on_record e (event_is e) (λ i. other (with_beside (item_of i) [] xs))) used
said_with answers.More xs = more
said_with (answers.Finish used) xs = finish used
said_with (answers.Refused r) xs = refusing r

-- arguments stand beside a command alone, as many parts as the count says, the others empty; elsewhere there are none
abbrev pub answer_args : Answer → Args → Args
answer_args (answers.Event e used) xs = on_record e no_args (λ i. args_in (item_of i).tag xs)
answer_args answers.More xs = no_args
answer_args (answers.Finish used) xs = no_args
answer_args (answers.Refused r) xs = no_args
