-- The data of an extension whose fields were read. Assumes nothing.
use Prim.Native.Nat.{ℕ}
use mathlib.Core.Path.{◌≡◌, refl, ◌∙◌, ap}
use mathlib.Core.List.{List}
use lib.ListN.{take}
use Rattle.refusal.specs.declared.Refusal.TheVariants as refusals
use Rattle.packer.specs.declared.Part.{Part}
use Rattle.fields.specs.Fields.{Value, Reading, got, runs_out, refused, read_fields}
use Rattle.shapes.specs.steps.Shapes.{fields_in, viewed}
use Rattle.shapes.specs.declared.Shape.{Shape}
use Rattle.shapes.specs.declared.FieldsRead.{FieldsRead}
use Rattle.shapes.specs.declared.FieldsRead.TheVariants as read
use Rattle.extensions.specs.Extensions.{Payload, shaped}
use Rattle.extensions.specs.declared.Extension.{Extension}
use Rattle.item.specs.Records.{Content, as_content, of_payload}
use Rattle.item.specs.steps.Reading.{up_to}
use Rattle.item.specs.declared.Tag.TheVariants.{Named}
use Rattle.extension_records.specs.steps.Views.{ex_content}

-- the answer to a reading of the fields in the data, which ends at next
abbrev pub of_shape : Extension → Payload → ℕ → FieldsRead → Reading (Content Part)
of_shape k p next (read.Got f past) = got (ex_content k p f) next
of_shape k p next read.RunsOut = runs_out
of_shape k p next read.NegativeLength = refused refusals.NegativeLength

up : (k : Extension) (next : ℕ) (shape : Shape) (x : FieldsRead)
    → of_shape k (shaped (fields_in shape)) next x ≡ up_to next (as_content (Named k) (viewed shape x))
up k next shape (read.Got f past) = refl
up k next shape read.RunsOut = refl
up k next shape read.NegativeLength = refl

pub shaped_payload : (s : List ℕ) (load : Part) (k : Extension) (p : Payload) (next : ℕ) (shape : Shape) (x : FieldsRead)
    → shaped (fields_in shape) ≡ p → viewed shape x ≡ read_fields (fields_in shape) (take next s) load.at
    → of_shape k p next x ≡ of_payload s load k p next
shaped_payload s load k p next shape x e r =
    rw (← e) (up k next shape x ∙ ap (λ (y : Reading (List (Value Part))). up_to next (as_content (Named k) y)) r)
