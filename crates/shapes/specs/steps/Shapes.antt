-- The field sequences that records share, what stands in the code's fields for each, and how they are read.
use Rattle.std.specs.Prelude.{ℕ, ◌+◌, ◌≡◌, Bool, true, false, cond, List, [], ◌∷◌, drop, leb, ℤ, pos}
use Rattle.std.specs.Int.{w32}
use Rattle.std.proofs.Common.{of_z}
use Rattle.refusal.specs.declared.Refusal.TheVariants as refusals
use Rattle.varint.specs.declared.IntRead.{IntRead}
use Rattle.varint.specs.declared.IntRead.TheVariants as ints
use Rattle.packer.specs.Parts.{part, read_string}
use Rattle.packer.specs.declared.Part.{Part}
use Rattle.packer.specs.declared.PartRead.{PartRead}
use Rattle.packer.specs.declared.PartRead.TheVariants as parts
use Rattle.packer.specs.declared.DataRead.{DataRead}
use Rattle.packer.specs.declared.DataRead.TheVariants as blobs
use Rattle.fields.specs.Fields.{Field, int, dt, mask, str, uuid, blob, args, Value, num, bytes, Reading, got, runs_out, refused, read_fields}
use Rattle.fields.specs.steps.Sorts.{push, no_part}
use Rattle.shapes.specs.declared.Shape.{Shape}
use Rattle.shapes.specs.declared.Shape.TheVariants.{Nothing, Int, IntInt, IntStr, IntIntStr, IntUuidStr, IntUuidIntStr, IntData}
use Rattle.shapes.specs.declared.Fields.{Fields}
use Rattle.shapes.specs.declared.FieldsRead.{FieldsRead}
use Rattle.shapes.specs.declared.FieldsRead.TheVariants as code
use Rattle.shapes.specs.declared.PairRead.{PairRead}
use Rattle.shapes.specs.declared.PairRead.TheVariants as pairs

abbrev pub fields_in : Shape → List Field
fields_in Nothing = []
fields_in Int = int ∷ []
fields_in IntInt = int ∷ int ∷ []
fields_in IntStr = int ∷ str ∷ []
fields_in IntIntStr = int ∷ int ∷ str ∷ []
fields_in IntUuidStr = int ∷ uuid ∷ str ∷ []
fields_in IntUuidIntStr = int ∷ uuid ∷ int ∷ str ∷ []
fields_in IntData = int ∷ blob ∷ []

-- the 16 bytes at a place
abbrev pub id_part : ℕ → Part
id_part at = part at 16

abbrev pub fields_with : ℤ → ℤ → ℕ → Part → Fields
fields_with a b id t = record { first = a; second = b; uuid = id; text = t }

-- the values that stand in the code's fields, for some sorts of field in their order: the first number, then the second
abbrev pub shift : Fields → Fields
shift f = fields_with f.second f.second f.uuid f.text

abbrev pub values_in : List Field → Fields → List (Value Part)
values_in [] f = []
values_in (int ∷ fs) f = num f.first ∷ values_in fs (shift f)
values_in (dt ∷ fs) f = num (pos (of_z w32 f.first)) ∷ values_in fs (shift f)
values_in (mask ∷ fs) f = num (pos (of_z w32 f.first)) ∷ values_in fs (shift f)
values_in (str ∷ fs) f = bytes f.text ∷ values_in fs f
values_in (uuid ∷ fs) f = bytes (id_part f.uuid) ∷ values_in fs f
values_in (blob ∷ fs) f = bytes f.text ∷ values_in fs f
values_in (args ∷ fs) f = values_in fs f

-- how many numbers, identifiers and texts there are among some sorts of field
abbrev pub is_number_field : Field → ℕ
is_number_field int = 1
is_number_field dt = 1
is_number_field mask = 1
is_number_field str = 0
is_number_field uuid = 0
is_number_field blob = 0
is_number_field args = 0

abbrev pub is_id : Field → ℕ
is_id int = 0
is_id dt = 0
is_id mask = 0
is_id str = 0
is_id uuid = 1
is_id blob = 0
is_id args = 0

abbrev pub is_text : Field → ℕ
is_text int = 0
is_text dt = 0
is_text mask = 0
is_text str = 1
is_text uuid = 0
is_text blob = 1
is_text args = 0

abbrev pub field_count : (Field → ℕ) → List Field → ℕ
field_count p [] = 0
field_count p (f ∷ fs) = p f + field_count p fs

-- the same with zeros and empty parts in the fields that are not used
abbrev pub tidy_fields : List Field → Fields → Fields
tidy_fields fs f =
    fields_with
    (cond (leb 1 (field_count is_number_field fs)) f.first (pos 0))
    (cond (leb 2 (field_count is_number_field fs)) f.second (pos 0))
    (cond (leb 1 (field_count is_id fs)) f.uuid 0)
    (cond (leb 1 (field_count is_text fs)) f.text no_part)

abbrev pub viewed : Shape → FieldsRead → Reading (List (Value Part))
viewed shape (code.Got f next) = got (values_in (fields_in shape) f) next
viewed shape code.RunsOut = runs_out
viewed shape code.NegativeLength = refused refusals.NegativeLength

abbrev pub tidied : Shape → FieldsRead → FieldsRead
tidied shape (code.Got f next) = code.Got (tidy_fields (fields_in shape) f) next
tidied shape code.RunsOut = code.RunsOut
tidied shape code.NegativeLength = code.NegativeLength

-- the code's fields show what was read, and the fields that the shape lacks are blank
pub record Shows (shape : Shape) (r : FieldsRead) (x : Reading (List (Value Part))) : Type 0 where
  pub values : viewed shape r ≡ x
  pub blank : tidied shape r ≡ r

-- the shape's fields are read as the definition reads them
abbrev pub Read : Shape → List ℕ → ℕ → FieldsRead → Type 0
Read shape s at r = Shows shape r (read_fields (fields_in shape) s at)

-- ---- the steps of it

abbrev pub is_nothing : Shape → Bool
is_nothing Nothing = true
is_nothing Int = false
is_nothing IntInt = false
is_nothing IntStr = false
is_nothing IntIntStr = false
is_nothing IntUuidStr = false
is_nothing IntUuidIntStr = false
is_nothing IntData = false

-- behind the first number
abbrev pub ShowsRest : Shape → ℤ → List ℕ → ℕ → FieldsRead → Type 0
ShowsRest shape first s at r = Shows shape r (push (num first) (read_fields (drop 1 (fields_in shape)) s at))

-- what a number that was read goes on to, and a part
abbrev pub on_int : IntRead → (ℤ → ℕ → FieldsRead) → FieldsRead
on_int (ints.Got z next remark) k = k z next
on_int ints.RunsOut k = code.RunsOut

abbrev pub on_part : PartRead → (Part → ℕ → FieldsRead) → FieldsRead
on_part (parts.Got p next) k = k p next
on_part parts.RunsOut k = code.RunsOut

abbrev pub numbers_read : ℤ → ℤ → ℕ → FieldsRead
numbers_read a b next = code.Got (fields_with a b 0 no_part) next

abbrev pub text_read : ℤ → ℤ → ℕ → PartRead → FieldsRead
text_read a b id x = on_part x (λ t next. code.Got (fields_with a b id t) next)

abbrev pub data_read : ℤ → DataRead → FieldsRead
data_read a (blobs.Got t next) = code.Got (fields_with a (pos 0) 0 t) next
data_read a blobs.RunsOut = code.RunsOut
data_read a blobs.NegativeLength = code.NegativeLength

abbrev pub second_read : ℤ → ℕ → Bool → List ℕ → IntRead → FieldsRead
second_read a id string s x = on_int x (λ b next. cond string (text_read a b id (read_string s next)) (numbers_read a b next))

-- two numbers
abbrev pub pair_is : PairRead → Reading (List (Value Part))
pair_is (pairs.Got x y next) = got (num x ∷ num y ∷ []) next
pair_is pairs.RunsOut = runs_out
