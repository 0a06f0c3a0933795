-- Which answers have arguments beside them, and what the function that reads them again hands over.
use Rattle.std.specs.Prelude.{ℕ, ◌≡◌, Bool, true, false, List, []}
use Rattle.fields.specs.declared.Args.{Args}
use Rattle.state.specs.declared.Memory.{Memory}
use Rattle.item.specs.Contents.{item_of, with_beside, no_args, args_in}
use Rattle.state.specs.Reading.{Event, other, open_call}
use Rattle.state.specs.Views.{event_is}
use Rattle.state.specs.Slim.{slim_said, said_is}
use Rattle.state.specs.declared.Scalars.{Scalars}
use Rattle.state.specs.declared.Event as code
use Rattle.state.specs.declared.Answer.{Answer}
use Rattle.state.specs.declared.Answer.TheVariants as answers
use Rattle.arguments.specs.Arguments.{on_record, said_with, answer_args}

abbrev pub event_with : code.Event → Args → Event
event_with e xs = on_record e (event_is e) (λ i. other (with_beside (item_of i) [] xs))

abbrev pub event_args : code.Event → Args → Args
event_args e xs = on_record e no_args (λ i. args_in (item_of i).tag xs)

abbrev pub record_event : code.Event → Bool
record_event e = on_record e false (λ i. true)

abbrev pub is_record : Answer → Bool
is_record (answers.Event e used) = record_event e
is_record answers.More = false
is_record (answers.Finish used) = false
is_record (answers.Refused r) = false

-- where a call's answer is a without arguments, they are those that it lacks
pub record ArgsFor (a : Answer) (s : Scalars) (w : List ℕ) (xs : Args) : Type 0 where
  pub said :
      (m : Memory) (last : Bool) → said_is a ≡ slim_said (open_call s m w last).said → said_with a xs ≡ (open_call s m w last).said
  pub tidy : (m : Memory) (last : Bool) → said_is a ≡ slim_said (open_call s m w last).said → answer_args a xs ≡ xs
