-- The records that have no written form and are refused 11: those for which one of eight tests holds. docs/FORMAT.md, "The writer".
use Rattle.std.specs.Prelude.{ℕ, ◌≡◌, Bool, false, not, ◌&&◌, ◌||◌, List, [], ◌∷◌, map, leb, eqb, Result}
use Rattle.std.specs.Int.Signed.{non_neg}
use Rattle.refusal.specs.declared.Refusal.{Refusal}
use Rattle.varint.specs.Written.{written_if, wrote_said, writing}
use Rattle.packer.specs.Texts.{no_zero, is_data}
use Rattle.fields.specs.Fields.{Field, int, dt, mask, str, uuid, blob, args, Value, on_num, on_bytes, on_strings, mean}
use Rattle.fields.specs.Writing.{all_hold, small_dt, parts_inside}
use Rattle.extensions.specs.Extensions.{payload_at, find, is_unknown}
use Rattle.item.specs.Records.{rest_of}
use Rattle.item.specs.Contents.{by_tag, own_payload, beside_of, record_of}
use Rattle.kinds.specs.declared.Version.{Version}
use Rattle.kinds.specs.Kinds.{by_client, by_beside, kind_row}
use Rattle.item.specs.declared.Tag.{Tag}
use Rattle.item.specs.declared.Record.{Record}
use Rattle.written.specs.Written.{all_fields, bytes_at, payload_bytes, has_ex, record_bytes}

-- ---- the fields of a record, with their values

-- those whose values stand beside the record too
abbrev pub tag_fields : Tag → List Field
tag_fields t = by_tag (λ k. all_fields (rest_of k)) (λ e. own_payload (payload_at e)) (uuid ∷ blob ∷ []) t

abbrev pub field_number : Field → ℕ
field_number int = 0
field_number dt = 1
field_number mask = 2
field_number str = 3
field_number uuid = 4
field_number blob = 5
field_number args = 6

-- the test holds of a value of a field of the sort g
abbrev pub some_of : Field → (Value (List ℕ) → Bool) → List Field → List (Value (List ℕ)) → Bool
some_of g test [] vs = false
some_of g test (f ∷ fs) [] = false
some_of g test (f ∷ fs) (v ∷ vs) = (eqb (field_number g) (field_number f) && test v) || some_of g test fs vs

-- the values of a record, with the bytes that its parts show
abbrev pub record_values : List ℕ → Record → List (Value (List ℕ))
record_values s r = map (mean s) (record_of r).values

abbrev pub some_field : Field → (Value (List ℕ) → Bool) → List ℕ → Record → Bool
some_field g test s r = some_of g test (tag_fields (record_of r).tag) (record_values s r)

-- ---- 1: a negative PlayerDiff client

abbrev pub negative_client : Record → Bool
negative_client r =
    by_tag (λ k. by_client false (λ c. not (non_neg c)) (λ c. false) false (kind_row k).client) (λ e. false) false (record_of r).tag

-- ---- 2: dt above 2147483647

abbrev pub large_dt : List ℕ → Record → Bool
large_dt s r = some_field dt (on_num false (λ z. not (small_dt z))) s r

-- ---- 3: a string holding 00

abbrev pub zero_in_string : List ℕ → Record → Bool
zero_in_string s r =
    some_field str (on_bytes false (λ b. not (no_zero b))) s r || some_field args (on_strings false (λ bs. not (all_hold no_zero bs))) s r

-- ---- 4: more than 16 arguments

abbrev pub many_arguments : Record → Bool
many_arguments r = not (leb (by_beside 0 0 r.args.count 0 (beside_of (record_of r).tag)) 16)

-- ---- 5: data above 2147483647 bytes, an extension's payload too

-- the payload of UnknownEx is its data
abbrev pub long_payload : List ℕ → Record → Bool
long_payload s r = by_tag (λ k. false) (λ e. not (is_data (payload_bytes (payload_at e) (record_values s r)))) false (record_of r).tag

abbrev pub long_data : List ℕ → Record → Bool
long_data s r = some_field blob (on_bytes false (λ b. not (is_data b))) s r || long_payload s r

-- ---- 6: an extension in version 1

abbrev pub extension_in_version1 : Version → Record → Bool
extension_in_version1 v r = by_tag (λ k. false) (λ e. not (has_ex v)) (not (has_ex v)) (record_of r).tag

-- ---- 7: UnknownEx with one of the 20 identifiers

abbrev pub known_identifier : List ℕ → Record → Bool
known_identifier s r = by_tag (λ k. false) (λ e. false) (not (is_unknown (find (bytes_at 0 (record_values s r))))) (record_of r).tag

-- ---- 8: a part reaching outside the bytes lent with the record

abbrev pub part_outside : List ℕ → Record → Bool
part_outside s r = not (parts_inside s (record_of r).values)

-- ---- a record has a written form exactly if none of them holds

unfoldable pub record_writable : Version → List ℕ → Record → Bool
record_writable v s r =
    not
    (negative_client r
    || large_dt s r
    || zero_in_string s r
    || many_arguments r
    || long_data s r
    || extension_in_version1 v r
    || known_identifier s r
    || part_outside s r)

-- ---- the writer's call

-- the answer w: the place past the record's bytes, 11 or 9; and the target ys after it
pub record Writes (v : Version) (s : List ℕ) (r : Record) (xs : List ℕ) (at : ℕ) (w : Result ℕ Refusal) (ys : List ℕ) : Type 0 where
  pub answer : wrote_said w ≡ writing (record_writable v s r) xs at (record_bytes s r)
  pub target : ys ≡ written_if (record_writable v s r) xs at (record_bytes s r)
