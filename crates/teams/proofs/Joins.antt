-- What a record taken apart tells of the PlayerTeam that it may be. Assumes nothing.
use Rattle.std.specs.Prelude.{Some, None}
use mathlib.Core.Path.{◌≡◌, refl, sym, ap, ◌∙◌}
use mathlib.Core.Bool.{cond, false}
use mathlib.Core.List.{List}
use native.Mathlib.Omega.{arith}
use lib.ListN.{take}
use lib.Seq.{get_or-take}
use lib.IntN.{ℤ, pos}
use Rattle.packer.specs.declared.Part.{Part}
use Rattle.kinds.specs.Magic.{same_bytes}
use Rattle.fields.specs.Fields.{Value, num}
use Rattle.shapes.specs.declared.Fields.{Fields}
use Rattle.extensions.specs.Extensions.{all, id_at, extension_row, payload_at}
use Rattle.extensions.specs.declared.Extension.{Extension}
use Rattle.extensions.proofs.Each.{each}
use Rattle.item.specs.Records.{Content, content}
use Rattle.item.specs.Contents.{item_of, by_tag}
use Rattle.item.specs.Own.{own_content}
use Rattle.item.specs.steps.Taken.{from_fields, TakenApart}
use Rattle.item.specs.declared.Tag.{Tag}
use Rattle.item.specs.declared.Tag.TheVariants.{Plain, Named, Other}
use Rattle.item.specs.declared.Item.{Item}
use Rattle.item.specs.declared.Taken.{Taken}
use Rattle.state.specs.Reading.{Event, tick_start, tick_end, player_new, player_change, player_old, input, other}
use Rattle.state.specs.Slim.{slim}
use Rattle.teams.specs.Teams.{Joining, joins, nobody, is_player_team, number_at, joining_in, joining_of, on_joining, put_team, team_of, teams_after, former_team}

-- by the tag and the fields
abbrev pub joining_by : Tag → Fields → Joining
joining_by t f = cond (by_tag (λ kind. false) is_player_team false t) (joins f.first f.second) nobody

in_named : (f : Fields) (e : Extension) → joining_by (Named e) f ≡ joining_in (from_fields (Named e) f)
unfolding is_player_team same_bytes id_at payload_at extension_row all
in_named f =
    each (λ e. joining_by (Named e) f ≡ joining_in (from_fields (Named e) f))
    (refl, (refl, (refl, (refl, (refl, (refl, (refl, (refl, (refl, (refl, (refl, (refl, (refl, (refl, (refl, (refl, (refl, (refl, (refl, (refl, tt))))))))))))))))))))

in_fields : (f : Fields) (t : Tag) → joining_by t f ≡ joining_in (from_fields t f)
in_fields f (Plain kind) = refl
in_fields f (Named e) = in_named f e
in_fields f Other = refl

pub joining_told : (i : Item) (t : Taken) (g : Tag) → TakenApart i t → t.tag ≡ g → joining_by g t.fields ≡ joining_in (item_of i)
joining_told i t g a e = ap (λ (x : Tag). joining_by x t.fields) (sym e) ∙ in_fields t.fields t.tag ∙ ap joining_in a.values

-- ---- without the arguments that stand beside a command

-- PlayerTeam has two numbers, and they stand in the record
two_own : (vs : List (Value Part))
    → joins (number_at 0 (content Other (take 2 vs))) (number_at 1 (content Other (take 2 vs))) ≡ joins (number_at 0 (content Other vs)) (number_at 1 (content Other vs))
two_own vs = rw (get_or-take 2 vs 0 (num (pos 0)) (omega arith), get_or-take 2 vs 1 (num (pos 0)) (omega arith))

named_own : (vs : List (Value Part)) (e : Extension) → joining_in (own_content (content (Named e) vs)) ≡ joining_in (content (Named e) vs)
unfolding is_player_team same_bytes id_at payload_at extension_row all
named_own vs =
    each (λ e. joining_in (own_content (content (Named e) vs)) ≡ joining_in (content (Named e) vs))
    (refl, (refl, (refl, (refl, (refl, (refl, (refl, (refl, (refl, (refl, (refl, (refl, (refl, (two_own vs, (refl, (refl, (refl, (refl, (refl, (refl, tt))))))))))))))))))))

tag_own : (vs : List (Value Part)) (t : Tag) → joining_in (own_content (content t vs)) ≡ joining_in (content t vs)
tag_own vs (Plain kind) = refl
tag_own vs (Named e) = named_own vs e
tag_own vs Other = refl

pub joining_own : (c : Content Part) → joining_in (own_content c) ≡ joining_in c
joining_own c = tag_own c.values c.tag

pub slim_joining : (e : Event) → joining_of (slim e) ≡ joining_of e
slim_joining (tick_start t) = refl
slim_joining (tick_end t) = refl
slim_joining (player_new c x y) = refl
slim_joining (player_change c x y old-x old-y) = refl
slim_joining (player_old c x y) = refl
slim_joining (input c former) = refl
slim_joining (other c) = joining_own c

pub slim_teams : (e : Event) (t : List ℤ) → teams_after (slim e) t ≡ teams_after e t
unfolding teams_after
slim_teams e t = ap (on_joining (λ c n. put_team t c (Some n)) t) (slim_joining e)

pub slim_former : (e : Event) (t : List ℤ) → former_team (slim e) t ≡ former_team e t
unfolding former_team
slim_former e t = ap (on_joining (λ c n. team_of t c) None) (slim_joining e)
