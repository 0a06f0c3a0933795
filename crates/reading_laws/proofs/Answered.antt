-- What a reading call says determines its answer and its arguments. Assumes nothing.
use mathlib.Core.Path.{◌≡◌, refl, sym, ◌∙◌, ap}
use mathlib.Core.List.{[]}
use lib.ListN.{take}
use Rattle.fields.specs.Views.{args_with}
use Rattle.fields.specs.declared.Args.{Args}
use Rattle.item.specs.Said.{Said, gives, more, finish, refuses}
use Rattle.item.specs.Contents.{item_of, args_in}
use Rattle.item.specs.steps.Beside.{beside_kind, beside}
use Rattle.kinds.specs.declared.Kind.{Kind}
use Rattle.kinds.specs.declared.Kind.TheVariants as kinds
use Rattle.item.specs.declared.Tag.{Tag}
use Rattle.item.specs.declared.Tag.TheVariants.{Plain, Named, Other}
use Rattle.views.proofs.Refusals.{refusal_by, by_number}
use Rattle.views.proofs.Items.{item_by, by_content}
use Rattle.views.proofs.Records.{same_beside}
use Rattle.state.specs.Reading.{Event, tick_start, tick_end, player_new, player_change, player_old, input, other}
use Rattle.state.specs.declared.Event as code
use Rattle.state.specs.declared.Event.TheVariants as events
use Rattle.state.specs.declared.Answer.{Answer}
use Rattle.state.specs.declared.Answer.TheVariants as answers
use Rattle.arguments.specs.steps.Inside.{event_with, event_args}
use Rattle.reader.specs.Answers.{said_with, answer_args}

-- ---- the answer

abbrev event_by : Event → code.Event
event_by (tick_start t) = events.TickStart t
event_by (tick_end t) = events.TickEnd t
event_by (player_new c x y) = events.PlayerNew c x y
event_by (player_change c x y old-x old-y) = events.PlayerChange c x y old-x old-y
event_by (player_old c x y) = events.PlayerOld c x y
event_by (input c former) = events.Input c former
event_by (other c) = events.Record (item_by c)

abbrev answer_by : Said Event → Answer
answer_by (gives e n) = answers.Event (event_by e) n
answer_by more = answers.More
answer_by (finish n) = answers.Finish n
answer_by (refuses n vs) = answers.Refused (refusal_by n vs)

event_by_law : (e : code.Event) (xs : Args) → event_by (event_with e xs) ≡ e
event_by_law (events.TickStart t) xs = refl
event_by_law (events.TickEnd t) xs = refl
event_by_law (events.PlayerNew c x y) xs = refl
event_by_law (events.PlayerChange c x y old-x old-y) xs = refl
event_by_law (events.PlayerOld c x y) xs = refl
event_by_law (events.Input c former) xs = refl
event_by_law (events.Record i) xs = ap events.Record (by_content i [] xs)

answer_by_law : (a : Answer) (xs : Args) → answer_by (said_with a xs) ≡ a
answer_by_law (answers.Event e n) xs = ap (λ (x : code.Event). answers.Event x n) (event_by_law e xs)
answer_by_law answers.More xs = refl
answer_by_law (answers.Finish n) xs = refl
answer_by_law (answers.Refused r) xs = ap answers.Refused (by_number r)

pub same_answer : (a b : Answer) (xs ys : Args) → said_with a xs ≡ said_with b ys → a ≡ b
same_answer a b xs ys e = sym (answer_by_law a xs) ∙ ap answer_by e ∙ answer_by_law b ys

-- ---- the arguments

module _ (xs ys : Args) where
  kind_args : (k : Kind) → args_in (Plain k) xs ≡ xs → args_in (Plain k) ys ≡ ys → beside_kind k [] xs ≡ beside_kind k [] ys → xs ≡ ys
  kind_args (kinds.PlayerDiff c) x y e = sym x ∙ y
  kind_args kinds.Finish x y e = sym x ∙ y
  kind_args kinds.TickSkip x y e = sym x ∙ y
  kind_args (kinds.PlayerNew c) x y e = sym x ∙ y
  kind_args (kinds.PlayerOld c) x y e = sym x ∙ y
  kind_args kinds.InputDiff x y e = sym x ∙ y
  kind_args kinds.InputNew x y e = sym x ∙ y
  kind_args kinds.Message x y e = sym x ∙ y
  kind_args kinds.Join x y e = sym x ∙ y
  kind_args kinds.Drop x y e = sym x ∙ y
  kind_args kinds.ConsoleCommand x y e =
      let t : take xs.count xs.parts ≡ take ys.count ys.parts = cc in sym x ∙ ap args_with t ∙ y
  kind_args kinds.Ex x y e = sym x ∙ y

  tag_args : (t : Tag) → args_in t xs ≡ xs → args_in t ys ≡ ys → beside t [] xs ≡ beside t [] ys → xs ≡ ys
  tag_args (Plain k) x y e = kind_args k x y e
  tag_args (Named k) x y e = sym x ∙ y
  tag_args Other x y e = sym x ∙ y

  event_args_law : (e : code.Event) → event_args e xs ≡ xs → event_args e ys ≡ ys → event_with e xs ≡ event_with e ys → xs ≡ ys
  event_args_law (events.TickStart t) x y e = sym x ∙ y
  event_args_law (events.TickEnd t) x y e = sym x ∙ y
  event_args_law (events.PlayerNew c a b) x y e = sym x ∙ y
  event_args_law (events.PlayerChange c a b old-x old-y) x y e = sym x ∙ y
  event_args_law (events.PlayerOld c a b) x y e = sym x ∙ y
  event_args_law (events.Input c former) x y e = sym x ∙ y
  event_args_law (events.Record i) x y e = tag_args (item_of i).tag x y (same_beside i [] [] xs ys (cc))

  pub same_args : (a : Answer) → answer_args a xs ≡ xs → answer_args a ys ≡ ys → said_with a xs ≡ said_with a ys → xs ≡ ys
  same_args (answers.Event e n) x y s = event_args_law e x y (cc)
  same_args answers.More x y s = sym x ∙ y
  same_args (answers.Finish n) x y s = sym x ∙ y
  same_args (answers.Refused r) x y s = sym x ∙ y
