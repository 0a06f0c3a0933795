-- What the calls of this crate hand back, as the definitions say it.
use Rattle.std.specs.Prelude.{[], ◌∷◌}
use Rattle.packer.specs.declared.Part.{Part}
use Rattle.refusal.specs.declared.Refusal.TheVariants as refusals
use Rattle.fields.specs.Fields.{bytes, Reading, got, runs_out, refused}
use Rattle.shapes.specs.steps.Shapes.{values_in}
use Rattle.shapes.specs.declared.Fields.{Fields}
use Rattle.extensions.specs.Extensions.{Payload, shaped, all_data}
use Rattle.extensions.specs.declared.Extension.{Extension}
use Rattle.item.specs.Records.{Content, content}
use Rattle.item.specs.Contents.{item_of}
use Rattle.item.specs.declared.Tag.TheVariants.{Named}
use Rattle.extension_records.specs.declared.ExRead.{ExRead}
use Rattle.extension_records.specs.declared.ExRead.TheVariants as reads

abbrev pub ex_is : ExRead → Reading (Content Part)
ex_is (reads.Got i next) = got (item_of i) next
ex_is reads.RunsOut = runs_out
ex_is reads.NegativeLength = refused refusals.NegativeLength

-- the record in the code's fields: where all the data is one value, it is the text
abbrev pub ex_content : Extension → Payload → Fields → Content Part
ex_content e (shaped fs) f = content (Named e) (values_in fs f)
ex_content e all_data f = content (Named e) (bytes f.text ∷ [])
