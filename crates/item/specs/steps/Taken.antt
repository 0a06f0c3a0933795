-- A record taken apart, its tag and the fields that the code keeps its values in.
use Rattle.std.specs.Prelude.{ℕ, ◌≡◌, ℤ}
use Rattle.packer.specs.declared.Part.{Part}
use Rattle.shapes.specs.steps.Shapes.{fields_with, values_in, tidy_fields}
use Rattle.shapes.specs.declared.Fields.{Fields}
use Rattle.item.specs.Records.{Content, content}
use Rattle.item.specs.Contents.{item_of}
use Rattle.item.specs.Own.{own_fields}
use Rattle.item.specs.declared.Tag.{Tag}
use Rattle.item.specs.declared.Item.{Item}
use Rattle.item.specs.declared.Taken.{Taken}

abbrev pub from_fields : Tag → Fields → Content Part
from_fields t f = content t (values_in (own_fields t) f)

abbrev pub taken_of : Tag → ℤ → ℤ → ℕ → Part → Taken
taken_of t a b id p = record { tag = t; fields = fields_with a b id p }

-- the tag and the fields hold the record's values, and the unused fields are blank
pub record TakenApart (i : Item) (t : Taken) : Type 0 where
  pub values : from_fields t.tag t.fields ≡ item_of i
  pub blank : tidy_fields (own_fields t.tag) t.fields ≡ t.fields
