-- Records: kind, then fields; an extension's data is read by itself. docs/FORMAT.md, "Records".
use Rattle.std.specs.Prelude.{ℕ, Bool, List, [], ◌∷◌, ◌++◌, map, take, Option, Some, None}
use Rattle.packer.specs.Parts.{shown, read_raw, read_data}
use Rattle.packer.specs.declared.Part.{Part}
use Rattle.fields.specs.Fields.{
  Field,
  args,
  Value,
  bytes,
  Reading,
  got,
  runs_out,
  refused,
  with_got,
  with_part,
  with_data,
  read_fields,
  mean,
}
use Rattle.fields.specs.Views.{ten_fields}
use Rattle.item.specs.Said.{Said, gives, refusing, out_of_bytes}
use Rattle.kinds.specs.Kinds.{read_kind, Beside, by_beside, kind_row}
use Rattle.extensions.specs.Extensions.{Payload, shaped, all_data, find, payload_at}
use Rattle.extensions.specs.declared.Extension.{Extension}
use Rattle.kinds.specs.declared.Version.{Version}
use Rattle.kinds.specs.declared.Kind.{Kind}
use Rattle.item.specs.declared.Tag.{Tag}
use Rattle.item.specs.declared.Tag.TheVariants.{Plain, Named, Other}

-- ---- what a record is: which record (its kind; one of the 20 extensions; another extension), and the values of its fields

pub record Content (A : Type 0) : Type 0 where
  pub tag : Tag
  pub values : List (Value A)

abbrev pub content : {A : Type 0} → Tag → List (Value A) → Content A
content t vs = record { tag = t; values = vs }

-- what was read from a window means this; records are the same if their meanings are
abbrev pub meaning : List ℕ → Content Part → Content (List ℕ)
meaning s c = content c.tag (map (mean s) c.values)

-- ---- the rest of a record, after its kind

-- fields that stand in the record, and fields whose values stand beside it; or an extension
pub data Rest : Type 0 where
  fields : List Field → List Field → Rest
  extension : Rest

abbrev pub rest_of : Kind → Rest
rest_of k = let fs = (kind_row k).own in by_beside (fields fs []) (fields fs ten_fields) (fields fs (args ∷ [])) extension (kind_row k).beside

abbrev pub as_content : Tag → Reading (List (Value Part)) → Reading (Content Part)
as_content t x = with_got x (λ vs. got (content t vs))

-- an extension's data, the part p, which ends at next, is read by itself: a window that ends there; what its fields leave of it is spare
abbrev pub of_payload : List ℕ → Part → Extension → Payload → ℕ → Reading (Content Part)
of_payload s p e (shaped fs) next = with_got (as_content (Named e) (read_fields fs (take next s) p.at)) (λ c end. got c next)
of_payload s p e all_data next = got (content (Named e) (bytes p ∷ [])) next

-- by what is found of the identifier
abbrev pub of_found : List ℕ → Part → Part → Option Extension → ℕ → Reading (Content Part)
of_found s id p (Some e) next = of_payload s p e (payload_at e) next
of_found s id p None next = got (content Other (bytes id ∷ bytes p ∷ [])) next

-- an extension: 16 bytes of identifier, then data
unfoldable pub read_ex : List ℕ → ℕ → Reading (Content Part)
read_ex s at = with_part (read_raw 16 s at) (λ id n. with_data (read_data s n) (λ p next. of_found s id p (find (shown s id)) next))

abbrev pub read_as : List ℕ → Kind → Rest → ℕ → Reading (Content Part)
read_as s kind (fields fs gs) at = as_content (Plain kind) (read_fields (fs ++ gs) s at)
read_as s kind extension at = read_ex s at

-- the rest of a record of a kind
unfoldable pub read_rest : Kind → List ℕ → ℕ → Reading (Content Part)
read_rest kind s at = read_as s kind (rest_of kind) at

-- a record at a place
unfoldable pub read_record : Version → List ℕ → ℕ → Reading (Content Part)
read_record v s at = with_got (read_kind v s at) (λ k. read_rest k s)

-- the record call: the record with the bytes used, more, or 3 to 7 or 21
abbrev pub record_said : Bool → Reading (Content Part) → Said (Content Part)
record_said last (got c next) = gives c next
record_said last runs_out = out_of_bytes last
record_said last (refused r) = refusing r

unfoldable pub record_call : Version → List ℕ → Bool → Said (Content Part)
record_call v s last = record_said last (read_record v s 0)
