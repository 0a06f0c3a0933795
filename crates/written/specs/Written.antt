-- The written form of a record, and which records have one. docs/FORMAT.md, "The writer".
use Rattle.std.specs.Prelude.{ℕ, List, [], ◌++◌, get_or, negsuc}
use Rattle.varint.specs.Written.{canonical}
use Rattle.packer.specs.Texts.{data_bytes}
use Rattle.fields.specs.Fields.{Field, Value, bytes, on_bytes}
use Rattle.fields.specs.Writing.{write_fields}
use Rattle.kinds.specs.Kinds.{by_client, kind_row, kind_number}
use Rattle.extensions.specs.Extensions.{Payload, shaped, all_data, id_at, payload_at}
use Rattle.item.specs.Records.{Content, meaning, Rest, fields, extension, rest_of}
use Rattle.item.specs.Contents.{record_of}
pub use Rattle.kinds.specs.Kinds.{has_ex}
use Rattle.kinds.specs.declared.Kind.{Kind}
use Rattle.item.specs.declared.Tag.{Tag}
use Rattle.item.specs.declared.Tag.TheVariants.{Plain, Named, Other}
use Rattle.item.specs.declared.Record.{Record}

-- ---- the bytes of a record, of its values

-- the kind's number, and a client that follows it
abbrev pub kind_bytes : Kind → List ℕ
kind_bytes k = canonical (kind_number k) ++ by_client [] (λ c. []) canonical [] (kind_row k).client

abbrev pub all_fields : Rest → List Field
all_fields (fields fs gs) = fs ++ gs
all_fields extension = []

-- the bytes that are value i
abbrev pub bytes_at : ℕ → List (Value (List ℕ)) → List ℕ
bytes_at i vs = on_bytes [] (λ b. b) (get_or vs i (bytes []))

abbrev pub payload_bytes : Payload → List (Value (List ℕ)) → List ℕ
payload_bytes (shaped fs) vs = write_fields fs vs
payload_bytes all_data vs = bytes_at 0 vs

-- an extension: -11, the identifier, the data
abbrev pub ex_bytes : List ℕ → List ℕ → List ℕ
ex_bytes id load = canonical (negsuc 10) ++ (id ++ data_bytes load)

abbrev pub tag_bytes : Tag → List (Value (List ℕ)) → List ℕ
tag_bytes (Plain k) vs = kind_bytes k ++ write_fields (all_fields (rest_of k)) vs
tag_bytes (Named k) vs = ex_bytes (id_at k) (payload_bytes (payload_at k) vs)
tag_bytes Other vs = ex_bytes (bytes_at 0 vs) (bytes_at 1 vs)

unfoldable pub write_content : Content (List ℕ) → List ℕ
write_content c = tag_bytes c.tag c.values

-- ---- a record of the program, with the bytes lent with it

unfoldable pub record_bytes : List ℕ → Record → List ℕ
record_bytes s r = write_content (meaning s (record_of r))
