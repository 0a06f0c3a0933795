-- What holds of records, as statements; proofs/Theorems.antt proves each. docs/FORMAT.md, "Round trips".
use Rattle.std.specs.Prelude.{ℕ, ◌≤◌, ◌≡◌, Bool, true, false, List, [], ◌∷◌, ◌++◌, length, take}
use Rattle.std.specs.Int.{w32}
use Rattle.std.proofs.Common.{SFits}
use Rattle.varint.specs.Laws.{Bytes, Steady, Shorter}
use Rattle.packer.specs.declared.Part.{Part}
use Rattle.fields.specs.Fields.{Field, uuid, blob, Value, Reading, got, runs_out, with_got}
use Rattle.fields.specs.Writing.{parts_inside}
use Rattle.fields.specs.Forms.{SortsOf}
use Rattle.fields.specs.Laws.{is_out}
use Rattle.item.specs.Said.{gives, more}
use Rattle.extensions.specs.Extensions.{payload_at}
use Rattle.item.specs.Records.{Content, meaning, rest_of, read_record, record_call}
use Rattle.item.specs.Remarks.{record_remarks}
use Rattle.item.specs.Contents.{record_of, tidy_record, own_payload}
use Rattle.kinds.specs.declared.Version.{Version}
use Rattle.kinds.specs.Kinds.{by_client, kind_row}
use Rattle.kinds.specs.declared.Kind.{Kind}
use Rattle.item.specs.declared.Tag.{Tag}
use Rattle.item.specs.declared.Tag.TheVariants.{Plain, Named, Other}
use Rattle.item.specs.declared.Record.{Record}
use Rattle.written.specs.Written.{all_fields, write_content, record_bytes}
use Rattle.written.specs.Form.{content_writable, has_form}
use Rattle.written.specs.Unwritable.{record_writable}

abbrev pub meant : List ℕ → Reading (Content Part) → Reading (Content (List ℕ))
meant s x = with_got x (λ c. got (meaning s c))

-- ---- the numbers of a record have 32 bits, as in every record that a program holds

abbrev pub AllTyped : List Field → List (Value Part) → Type 0
AllTyped = SortsOf (λ p. p.len)

-- a client that belongs to the kind has 32 bits
abbrev pub kind_numbers : Kind → Type 0
kind_numbers k = by_client Unit (SFits w32) (SFits w32) Unit (kind_row k).client

abbrev pub TypedContent : Tag → List (Value Part) → Type 0
TypedContent (Plain k) vs = kind_numbers k × AllTyped (all_fields (rest_of k)) vs
TypedContent (Named k) vs = AllTyped (own_payload (payload_at k)) vs
TypedContent Other vs = AllTyped (uuid ∷ blob ∷ []) vs

abbrev pub TypedRecord : Record → Type 0
TypedRecord r = TypedContent (record_of r).tag (record_of r).values

-- ---- the eight tests say of every record whether the structure of records gives it a written form

abbrev pub WritableIsForm : Type 0
WritableIsForm = (v : Version) (s : List ℕ) (r : Record) → record_writable v s r ≡ has_form v s r

-- ---- written and read again in the same version: the same record, exactly the bytes written used, no remark, whatever follows

abbrev pub RecordWrittenReads : Type 0
RecordWrittenReads =
    (v : Version) (s : List ℕ) (r : Record) → TypedRecord r → record_writable v s r ≡ true → (after : List ℕ)
    → (meant (record_bytes s r ++ after) (read_record v (record_bytes s r ++ after) 0) ≡ got (meaning s (record_of r)) (length (record_bytes s r)))
    × (record_remarks v (record_bytes s r ++ after) 0 ≡ 0)

-- ---- read without a remark and without spare payload, and written again: the same bytes; and the writer does not refuse it

pub record Same (v : Version) (s : List ℕ) (c : Content Part) (next : ℕ) : Type 0 where
  pub within : next ≤ length s
  pub inside : parts_inside s c.values ≡ true
  pub writable : content_writable v (meaning s c) ≡ true
  pub same : write_content (meaning s c) ≡ take next s

abbrev pub RecordReadsWritten : Type 0
RecordReadsWritten =
    (v : Version) (s : List ℕ) (c : Content Part) (next : ℕ) → Bytes s → read_record v s 0 ≡ got c next
    → record_remarks v s 0 ≡ 0 → Same v s c next

-- the same of a record of the program, as the record call hands it back
abbrev pub Rewritten : Type 0
Rewritten =
    (v : Version) (s : List ℕ) (r : Record) (next : ℕ) → Bytes s → read_record v s 0 ≡ got (record_of r) next → tidy_record r ≡ r
    → record_remarks v s 0 ≡ 0 → (record_writable v s r ≡ true) × (record_bytes s r ≡ take next s)

-- ---- bytes behind a record never matter

abbrev pub RecordSteady : Type 0
RecordSteady = (v : Version) → Steady is_out (read_record v) × Shorter is_out (read_record v)

-- ---- the record call answers a record exactly if there is one in the window, more exactly if the flag is off and the bytes run out;
-- a record that it gives, it gives whatever follows, with either flag

pub record CallIs (v : Version) (s : List ℕ) (last : Bool) : Type 0 where
  pub sound : (c : Content Part) (used : ℕ) → record_call v s last ≡ gives c used → read_record v s 0 ≡ got c used
  pub complete : (c : Content Part) (used : ℕ) → read_record v s 0 ≡ got c used → record_call v s last ≡ gives c used
  pub waits : record_call v s last ≡ more → (last ≡ false) × (read_record v s 0 ≡ runs_out)
  pub waiting : last ≡ false → read_record v s 0 ≡ runs_out → record_call v s last ≡ more
  pub steady : (c : Content Part) (used : ℕ) → record_call v s last ≡ gives c used → (t : List ℕ) (l : Bool) → record_call v (s ++ t) l ≡ gives c used

abbrev pub RecordCalls : Type 0
RecordCalls = (v : Version) (s : List ℕ) (last : Bool) → CallIs v s last
