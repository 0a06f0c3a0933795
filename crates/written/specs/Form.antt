-- Which records have a written form, by the structure of records; specs/Unwritable.antt has the tests for the others.
use Rattle.std.specs.Prelude.{ℕ, Bool, true, false, ◌&&◌, List, leb}
use Rattle.std.specs.Int.Signed.{non_neg}
use Rattle.packer.specs.Texts.{is_data}
use Rattle.fields.specs.Fields.{Value}
use Rattle.fields.specs.Writing.{parts_inside}
use Rattle.fields.specs.Forms.{all_writable}
use Rattle.fields.specs.declared.Args.{Args}
use Rattle.kinds.specs.Kinds.{by_client, by_beside, kind_row}
use Rattle.extensions.specs.Extensions.{Payload, shaped, all_data, payload_at, find, is_unknown}
use Rattle.item.specs.Records.{Content, meaning, rest_of}
use Rattle.item.specs.Contents.{beside_of, record_of}
use Rattle.kinds.specs.declared.Version.{Version}
use Rattle.kinds.specs.declared.Kind.{Kind}
use Rattle.item.specs.declared.Tag.{Tag}
use Rattle.item.specs.declared.Tag.TheVariants.{Plain, Named, Other}
use Rattle.item.specs.declared.Record.{Record}
use Rattle.kinds.specs.Kinds.{has_ex}
use Rattle.written.specs.Written.{all_fields, bytes_at, payload_bytes}

-- a client that is the kind's number is none below 0; an extension is written by its identifier
abbrev pub kind_writable : Kind → Bool
kind_writable k = by_beside true true true false (kind_row k).beside && by_client true non_neg (λ c. true) true (kind_row k).client

abbrev pub payload_writable : Payload → List (Value (List ℕ)) → Bool
payload_writable (shaped fs) vs = all_writable fs vs
payload_writable all_data vs = true

abbrev pub tag_writable : Version → Tag → List (Value (List ℕ)) → Bool
tag_writable v (Plain k) vs = kind_writable k && all_writable (all_fields (rest_of k)) vs
tag_writable v (Named k) vs = has_ex v && (payload_writable (payload_at k) vs && is_data (payload_bytes (payload_at k) vs))
tag_writable v Other vs = has_ex v && (is_unknown (find (bytes_at 0 vs)) && is_data (bytes_at 1 vs))

unfoldable pub content_writable : Version → Content (List ℕ) → Bool
content_writable v c = tag_writable v c.tag c.values

-- the arguments that a record has beside it
abbrev pub tag_count : Tag → Args → ℕ
tag_count t xs = by_beside 0 0 xs.count 0 (beside_of t)

-- at most 16 arguments, every part inside the bytes lent, and a written form
unfoldable pub has_form : Version → List ℕ → Record → Bool
has_form v s r =
    leb (tag_count (record_of r).tag r.args) 16
    && (parts_inside s (record_of r).values && content_writable v (meaning s (record_of r)))
