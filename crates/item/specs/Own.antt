-- A record without what stands beside it: its own fields.
use Rattle.std.specs.Prelude.{List, [], ◌∷◌, length, take}
use Rattle.packer.specs.declared.Part.{Part}
use Rattle.fields.specs.Fields.{Field, uuid, blob}
use Rattle.kinds.specs.Kinds.{kind_row}
use Rattle.extensions.specs.Extensions.{payload_at}
use Rattle.item.specs.Records.{Content, content}
use Rattle.item.specs.Contents.{by_tag, own_payload}
use Rattle.item.specs.declared.Tag.{Tag}

abbrev pub own_fields : Tag → List Field
own_fields t = by_tag (λ k. (kind_row k).own) (λ e. own_payload (payload_at e)) (uuid ∷ blob ∷ []) t

-- a record without what stands beside it
abbrev pub own_content : Content Part → Content Part
own_content c = content c.tag (take (length (own_fields c.tag)) c.values)
