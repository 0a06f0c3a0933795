-- The remarks on a record's integers, and the spare bytes of an extension's data. docs/FORMAT.md, "Round trips".
use Rattle.std.specs.Prelude.{ℕ, ◌+◌, ◌-◌, List, ◌++◌, take, Option, Some, None}
use Rattle.extensions.specs.declared.Extension.{Extension}
use Rattle.varint.specs.Integers.{read_int}
use Rattle.varint.specs.declared.IntRead.{IntRead}
use Rattle.packer.specs.Parts.{shown, read_raw, read_data}
use Rattle.packer.specs.declared.Part.{Part}
use Rattle.fields.specs.Fields.{got, with_int, with_part, with_data, read_fields}
use Rattle.fields.specs.Remarks.{remark_in, if_got, remarks}
use Rattle.kinds.specs.Kinds.{read_kind, by_client, kind_row}
use Rattle.kinds.specs.declared.Kind.{Kind}
use Rattle.kinds.specs.declared.Version.{Version}
use Rattle.extensions.specs.Extensions.{Payload, shaped, all_data, find, payload_at}
use Rattle.item.specs.Records.{Rest, fields, extension, rest_of}

abbrev pub payload_remarks : List ℕ → Part → Payload → ℕ → ℕ
payload_remarks s p (shaped fs) next = remarks fs (take next s) p.at + if_got (read_fields fs (take next s) p.at) (λ vs end. next - end)
payload_remarks s p all_data next = 0

abbrev pub found_remarks : List ℕ → Part → Option Extension → ℕ → ℕ
found_remarks s p (Some e) next = payload_remarks s p (payload_at e) next
found_remarks s p None next = 0

unfoldable pub ex_remarks : List ℕ → ℕ → ℕ
ex_remarks s at =
    if_got (with_part (read_raw 16 s at) got)
    (λ id n. remark_in (read_int s n) + if_got (with_data (read_data s n) got) (λ p next. found_remarks s p (find (shown s id)) next))

abbrev pub rest_remarks : List ℕ → Rest → ℕ → ℕ
rest_remarks s (fields fs gs) at = remarks (fs ++ gs) s at
rest_remarks s extension at = ex_remarks s at

-- on a client that follows the number i
abbrev pub client_remark : Kind → List ℕ → IntRead → ℕ
client_remark k s i = by_client 0 (λ c. 0) (λ c. if_got (with_int i got) (λ z next. remark_in (read_int s next))) 0 (kind_row k).client

-- none, exactly if every integer read is free of remarks and no payload has spare bytes
unfoldable pub record_remarks : Version → List ℕ → ℕ → ℕ
record_remarks v s at =
    if_got (read_kind v s at) (λ k next. remark_in (read_int s at) + (client_remark k s (read_int s at) + rest_remarks s (rest_of k) next))
