-- What a record taken apart tells of the finish that it may be. Assumes nothing.
use mathlib.Core.Path.{◌≡◌, refl, sym, ap, ◌∙◌}
use mathlib.Core.Bool.{cond, false}
use mathlib.Core.List.{List, [], ◌∷◌}
use lib.IntN.{ℤ}
use Rattle.kinds.specs.Magic.{same_bytes}
use Rattle.shapes.specs.declared.Fields.{Fields}
use Rattle.extensions.specs.Extensions.{all, id_at, extension_row, payload_at}
use Rattle.extensions.specs.declared.Extension.{Extension}
use Rattle.extensions.proofs.Each.{each}
use Rattle.item.specs.Contents.{item_of, by_tag}
use Rattle.item.specs.steps.Taken.{from_fields, TakenApart}
use Rattle.item.specs.declared.Tag.{Tag}
use Rattle.item.specs.declared.Tag.TheVariants.{Plain, Named, Other}
use Rattle.item.specs.declared.Item.{Item}
use Rattle.item.specs.declared.Taken.{Taken}
use Rattle.results.specs.Results.{Finish, finish, is_player_finish, finish_in}

-- by the tag and the fields
abbrev pub finish_by : ℤ → Tag → Fields → List Finish
finish_by k t f = cond (by_tag (λ kind. false) is_player_finish false t) (finish f.first f.second k ∷ []) []

in_named : (k : ℤ) (f : Fields) (e : Extension) → finish_by k (Named e) f ≡ finish_in k (from_fields (Named e) f)
unfolding is_player_finish same_bytes id_at payload_at extension_row all
in_named k f =
    each (λ e. finish_by k (Named e) f ≡ finish_in k (from_fields (Named e) f))
    (refl, (refl, (refl, (refl, (refl, (refl, (refl, (refl, (refl, (refl, (refl, (refl, (refl, (refl, (refl, (refl, (refl, (refl, (refl, (refl, tt))))))))))))))))))))

in_fields : (k : ℤ) (f : Fields) (t : Tag) → finish_by k t f ≡ finish_in k (from_fields t f)
in_fields k f (Plain kind) = refl
in_fields k f (Named e) = in_named k f e
in_fields k f Other = refl

pub finish_told : (i : Item) (t : Taken) (g : Tag) → TakenApart i t → t.tag ≡ g → (k : ℤ) → finish_by k g t.fields ≡ finish_in k (item_of i)
finish_told i t g a e k =
    ap (λ (x : Tag). finish_by k x t.fields) (sym e) ∙ in_fields k t.fields t.tag ∙ ap (finish_in k) a.values
