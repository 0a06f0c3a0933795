-- The arguments that stand beside a command change no team. Assumes nothing.
use mathlib.Core.Path.{◌≡◌, refl, sym, ap}
use mathlib.Core.List.{List, [], append-nil}
use lib.IntN.{ℤ}
use Rattle.packer.specs.declared.Part.{Part}
use Rattle.fields.specs.Fields.{Value}
use Rattle.fields.specs.declared.Args.{Args}
use Rattle.item.specs.Records.{Content, content}
use Rattle.item.specs.Contents.{item_of, with_beside}
use Rattle.item.specs.declared.Tag.{Tag}
use Rattle.item.specs.declared.Tag.TheVariants.{Plain, Named, Other}
use Rattle.state.specs.Reading.{other}
use Rattle.state.specs.Slim.{said_is}
use Rattle.state.specs.Views.{event_is}
use Rattle.state.specs.declared.Event as code
use Rattle.state.specs.declared.Event.TheVariants as events
use Rattle.state.specs.declared.Answer.{Answer}
use Rattle.state.specs.declared.Answer.TheVariants as answers
use Rattle.teams.specs.Teams.{joining_in, joining_of}
use Rattle.team_calls.specs.Reading.{teams_said, former_said}
use Rattle.team_calls.proofs.Slims.{same_teams}
use Rattle.arguments.specs.Arguments.{on_record, said_with}

-- nothing stands beside an extension; every other record is no PlayerTeam
joins_beside : (c : Content Part) (xs : Args) → joining_in c ≡ joining_in (with_beside c [] xs)
joins_beside c xs = by_tag_law c.tag
  where
    by_tag_law : (t : Tag) → joining_in (content t c.values) ≡ joining_in (with_beside (content t c.values) [] xs)
    by_tag_law (Plain kind) = refl
    by_tag_law (Named e) = ap (λ (vs : List (Value Part)). joining_in (content (Named e) vs)) (sym (append-nil c.values))
    by_tag_law Other = refl

event_joins : (v : code.Event) (xs : Args)
    → joining_of (event_is v) ≡ joining_of (on_record v (event_is v) (λ i. other (with_beside (item_of i) [] xs)))
event_joins (events.TickStart t) xs = refl
event_joins (events.TickEnd t) xs = refl
event_joins (events.PlayerNew c x y) xs = refl
event_joins (events.PlayerChange c x y old-x old-y) xs = refl
event_joins (events.PlayerOld c x y) xs = refl
event_joins (events.Input c former) xs = refl
event_joins (events.Record i) xs = joins_beside (item_of i) xs

pub beside_said : (a : Answer) (xs : Args) (t : List ℤ)
    → (teams_said (said_is a) t ≡ teams_said (said_with a xs) t) × (former_said (said_is a) t ≡ former_said (said_with a xs) t)
beside_said (answers.Event v n) xs t = same_teams (event_is v) _ t (event_joins v xs)
beside_said answers.More xs t = (refl, refl)
beside_said (answers.Finish n) xs t = (refl, refl)
beside_said (answers.Refused r) xs t = (refl, refl)
