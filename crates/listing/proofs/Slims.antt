-- An event without the arguments that stand beside a command is the same finish. Assumes nothing.
use mathlib.Core.Path.{◌≡◌, refl}
use mathlib.Core.List.{List, [], ◌∷◌}
use native.Mathlib.Omega.{arith}
use lib.ListN.{take}
use lib.Seq.{get_or-take}
use lib.IntN.{ℤ, pos}
use Rattle.packer.specs.declared.Part.{Part}
use Rattle.kinds.specs.Magic.{same_bytes}
use Rattle.extensions.specs.Extensions.{all, id_at, extension_row, payload_at}
use Rattle.extensions.specs.declared.Extension.{Extension}
use Rattle.extensions.proofs.Each.{each}
use Rattle.fields.specs.Fields.{Value, num}
use Rattle.item.specs.Records.{Content, content}
use Rattle.item.specs.Own.{own_content}
use Rattle.item.specs.declared.Tag.{Tag}
use Rattle.item.specs.declared.Tag.TheVariants.{Plain, Named, Other}
use Rattle.state.specs.Reading.{Event}
use Rattle.state.specs.Slim.{slim}
use Rattle.rests.proofs.Slim.{slim_same}
use Rattle.results.specs.Results.{finish, is_player_finish, number_at, finish_in, finish_of}

-- PlayerFinish has two numbers, and they stand in the record; every other record is no finish
module _ (k : ℤ) (vs : List (Value Part)) where
  two : finish (number_at 0 (content Other (take 2 vs))) (number_at 1 (content Other (take 2 vs))) k ∷ [] ≡ finish (number_at 0 (content Other vs)) (number_at 1 (content Other vs)) k ∷ []
  two = rw (get_or-take 2 vs 0 (num (pos 0)) (omega arith), get_or-take 2 vs 1 (num (pos 0)) (omega arith))

  named_own : (e : Extension) → finish_in k (own_content (content (Named e) vs)) ≡ finish_in k (content (Named e) vs)
  unfolding is_player_finish same_bytes id_at payload_at extension_row all
  named_own =
      each (λ e. finish_in k (own_content (content (Named e) vs)) ≡ finish_in k (content (Named e) vs))
      (refl, (refl, (refl, (refl, (refl, (refl, (refl, (refl, (two, (refl, (refl, (refl, (refl, (refl, (refl, (refl, (refl, (refl, (refl, (refl, tt))))))))))))))))))))

finish_own : (k : ℤ) (c : Content Part) → finish_in k (own_content c) ≡ finish_in k c
finish_own k c = by_tag_law c.tag
  where
    by_tag_law : (t : Tag) → finish_in k (own_content (content t c.values)) ≡ finish_in k (content t c.values)
    by_tag_law (Plain kind) = refl
    by_tag_law (Named e) = named_own k c.values e
    by_tag_law Other = refl

pub slim_finish : (k : ℤ) (e : Event) → finish_of k (slim e) ≡ finish_of k e
slim_finish k e = slim_same (finish_of k) (finish_own k) e
