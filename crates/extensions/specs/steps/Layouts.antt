-- What an extension's data holds, as the code says it.
use Rattle.std.specs.Prelude.{◌≡◌, Bool}
use Rattle.shapes.specs.steps.Shapes.{fields_in}
use Rattle.extensions.specs.Extensions.{Payload, shaped, all_data, payload_at, has_client}
use Rattle.extensions.specs.declared.Extension.{Extension}
use Rattle.extensions.specs.declared.Layout.{Layout}
use Rattle.extensions.specs.declared.Layout.TheVariants as layouts
use Rattle.extensions.specs.declared.Row.{Row}

abbrev pub payload_is : Layout → Payload
payload_is (layouts.Shaped shape) = shaped (fields_in shape)
payload_is layouts.Whole = all_data

abbrev pub row_with : Layout → Bool → Row
row_with l b = record { layout = l; client = b }

pub record RowOf (e : Extension) (r : Row) : Type 0 where
  pub payload : payload_is r.layout ≡ payload_at e
  pub client : r.client ≡ has_client e
