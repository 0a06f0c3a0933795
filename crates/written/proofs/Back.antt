-- A record that is written and read again: the same meaning, exactly the written bytes used, no remark, whatever follows. Assumes
-- nothing.
use Rattle.std.specs.Prelude.{Option, Some, None}
use Prim.Native.Nat.{ℕ, ◌+◌, ◌-◌}
use mathlib.Core.Path.{◌≡◌, refl, sym, ◌∙◌, ap}
use mathlib.Core.Bool.{true, false≢true, ◌&&◌}
use mathlib.Core.List.{List, [], ◌∷◌, ◌++◌, append_assoc, append-nil}
use native.Mathlib.Omega.{arith}
use lib.ListN.{length, take, drop, length-append}
use lib.IntN.{negsuc}
use Rattle.varint.specs.Written.{canonical}
use Rattle.packer.specs.Texts.{is_data, data_bytes}
use Rattle.packer.proofs.Places.{past, past_within}
use Rattle.fields.specs.Fields.{Field, uuid, blob, Value, num, bytes, strings, got}
use Rattle.fields.specs.Writing.{write_fields}
use Rattle.fields.specs.Forms.{AllSorted, all_writable}
use Rattle.fields.proofs.Answers.{and_split}
use Rattle.fields.proofs.Back.{all_back}
use Rattle.extensions.specs.Extensions.{Payload, shaped, all_data, id_at, payload_at, find, is_unknown}
use Rattle.extensions.specs.declared.Extension.{Extension}
use Rattle.item.specs.Records.{content, Rest, fields, extension, rest_of, of_payload, of_found, read_rest, read_record}
use Rattle.item.specs.Remarks.{payload_remarks, found_remarks, record_remarks}
use Rattle.item.specs.Contents.{own_payload}
use Rattle.kinds.specs.declared.Version.{Version}
use Rattle.kinds.specs.declared.Kind.{Kind}
use Rattle.kinds.specs.declared.Kind.TheVariants as kinds
use Rattle.item.specs.declared.Tag.{Tag}
use Rattle.item.specs.declared.Tag.TheVariants.{Plain, Named, Other}
use Rattle.ids.proofs.Table.{id_found, id_length}
use Rattle.written.specs.Written.{kind_bytes, all_fields, bytes_at, payload_bytes, ex_bytes, tag_bytes, has_ex}
use Rattle.written.specs.Form.{kind_writable, payload_writable, tag_writable}
use Rattle.written.specs.Laws.{meant, kind_numbers}
use Rattle.written.proofs.KindLaws.{Allowed, ex_only, kind_back}
use Rattle.written.proofs.Frames.{ex_split, load_at, end_at, id_part, load_part, Frame, framed}

-- numbers of 32 bits, identifiers of 16 bytes
abbrev pub SortedContent : Tag → List (Value (List ℕ)) → Type 0
SortedContent (Plain k) ms = kind_numbers k × AllSorted (all_fields (rest_of k)) ms
SortedContent (Named k) ms = AllSorted (own_payload (payload_at k)) ms
SortedContent Other ms = AllSorted (uuid ∷ blob ∷ []) ms

-- what reading and the remarks say of a record of n bytes
abbrev pub Reads : Version → List ℕ → Tag → List (Value (List ℕ)) → ℕ → Type 0
Reads v s t ms n = (meant s (read_record v s 0) ≡ got (content t ms) n) × (record_remarks v s 0 ≡ 0)

-- ---- kinds other than the extension's

fields_back : (v : Version) (k : Kind) (fs gs : List Field) (ms : List (Value (List ℕ))) → rest_of k ≡ fields fs gs → kind_numbers k
    → kind_writable k ≡ true → AllSorted (fs ++ gs) ms → all_writable (fs ++ gs) ms ≡ true → (after : List ℕ)
    → Reads v ((kind_bytes k ++ write_fields (fs ++ gs) ms) ++ after) (Plain k) ms (length (kind_bytes k ++ write_fields (fs ++ gs) ms))
unfolding read_record read_rest record_remarks
fields_back v k fs gs ms e numbers ok sorted w after =
    let c = kind_bytes k in
    let ws = write_fields (fs ++ gs) ms in
    let s = (c ++ ws) ++ after in
    let q : drop 0 s ≡ c ++ (ws ++ after) = append_assoc c ws after in
    let a : Allowed v k (rest_of k) = rw e ok in
    let r = kind_back v s (ws ++ after) 0 k numbers a q in
    let b = all_back (fs ++ gs) ms sorted w s after (0 + length c) (past_within s c (ws ++ after) 0 q (omega arith)) (past s c (ws ++ after) 0 q) in
    let n : 0 + length c + length ws ≡ length (c ++ ws) = omega (arith, length-append c ws) in
    (rw (r.reads, e, b.reads) (rw (b.same, n)), rw (r.reads, e) (omega (arith, r.clean, b.clean)))

rest_back : (v : Version) (k : Kind) (rest : Rest) (ms : List (Value (List ℕ))) → rest_of k ≡ rest → kind_numbers k
    → AllSorted (all_fields rest) ms → (kind_writable k && all_writable (all_fields rest) ms) ≡ true → (after : List ℕ)
    → Reads v ((kind_bytes k ++ write_fields (all_fields rest) ms) ++ after) (Plain k) ms (length (kind_bytes k ++ write_fields (all_fields rest) ms))
rest_back v k (fields fs gs) ms e numbers sorted w after =
    let o = and_split (kind_writable k) (all_writable (fs ++ gs) ms) w in
    fields_back v k fs gs ms e numbers o.0 sorted o.1 after
rest_back v k extension ms e numbers sorted w after = absurd (false≢true (rw (ex_only k e) at w))

-- ---- extensions

-- the values of data that are one part, and of another extension
one_part : (ms : List (Value (List ℕ))) → AllSorted (blob ∷ []) ms → ms ≡ bytes (bytes_at 0 ms) ∷ []
one_part [] sorted = absurd sorted
one_part (num z ∷ ms) sorted = absurd sorted.0
one_part (bytes b ∷ []) sorted = refl
one_part (bytes b ∷ m ∷ ms) sorted = absurd sorted.1
one_part (strings bs ∷ ms) sorted = absurd sorted.0

two_parts : (ms : List (Value (List ℕ))) → AllSorted (uuid ∷ blob ∷ []) ms
    → (length (bytes_at 0 ms) ≡ 16) × (ms ≡ bytes (bytes_at 0 ms) ∷ bytes (bytes_at 1 ms) ∷ [])
two_parts [] sorted = absurd sorted
two_parts (num z ∷ ms) sorted = absurd sorted.0
two_parts (bytes b ∷ ms) sorted = (sorted.0, ap (λ l. bytes b ∷ l) (one_part ms sorted.1))
two_parts (strings bs ∷ ms) sorted = absurd sorted.0

-- what reading an extension's data says, where x is what the identifier is found as
abbrev LoadReads : List ℕ → ℕ → List ℕ → List ℕ → Option Extension → Tag → List (Value (List ℕ)) → Type 0
LoadReads s at id load x t ms =
    (meant s (of_found s (id_part at id) (load_part at id load) x (end_at at id load)) ≡ got (content t ms) (end_at at id load))
    × (found_remarks s (load_part at id load) x (end_at at id load) ≡ 0)

-- and where l is the payload of the extension that it names
abbrev PayloadReads : List ℕ → ℕ → List ℕ → List ℕ → Extension → Payload → List (Value (List ℕ)) → Type 0
PayloadReads s at id load k l ms =
    (meant s (of_payload s (load_part at id load) k l (end_at at id load)) ≡ got (content (Named k) ms) (end_at at id load))
    × (payload_remarks s (load_part at id load) l (end_at at id load) ≡ 0)

module _ (s : List ℕ) (at : ℕ) (id load rest : List ℕ) (f : Frame s at id load rest) (k : Extension) where
  shaped_back : (fs : List Field) (ms : List (Value (List ℕ))) → AllSorted fs ms → all_writable fs ms ≡ true → load ≡ write_fields fs ms
      → PayloadReads s at id load k (shaped fs) ms
  shaped_back fs ms sorted w e =
      let ws = write_fields fs ms in
      let l = load_at at id load in
      let n = end_at at id load in
      let b = all_back fs ms sorted w (take n s) [] l f.load_starts (f.load_stands ∙ e ∙ sym (append-nil ws)) in
      let m = f.same_meaning fs b.values (l + length ws) b.reads in
      let z : n - (l + length ws) ≡ 0 = omega (arith, f.ends, ap length e) in
      (rw b.reads (rw (m, b.same)), rw b.reads (omega (arith, b.clean)))

  payload_back : (l : Payload) (ms : List (Value (List ℕ))) → AllSorted (own_payload l) ms → payload_writable l ms ≡ true → load ≡ payload_bytes l ms
      → PayloadReads s at id load k l ms
  payload_back (shaped fs) ms sorted w e = shaped_back fs ms sorted w e
  payload_back all_data ms sorted w e =
      let q : bytes load ∷ [] ≡ ms = rw e (sym (one_part ms sorted)) in
      (rw (f.load_shown, q), refl)

-- the place past the kind of an extension that stands at 0
abbrev ex_at : ℕ
ex_at = 0 + length (kind_bytes kinds.Ex)

module _ (id load after : List ℕ) where
  ex_frame : length id ≡ 16 → is_data load ≡ true → Frame (ex_bytes id load ++ after) ex_at id load after
  ex_frame sixteen small =
      let s = ex_bytes id load ++ after in
      let c = kind_bytes kinds.Ex in
      let r = id ++ (data_bytes load ++ after) in
      let e = ex_split id load after in
      framed s ex_at id load after (past_within s c r 0 e (omega arith)) sixteen small (past s c r 0 e)

  ex_back : (v : Version) → has_ex v ≡ true → Frame (ex_bytes id load ++ after) ex_at id load after → (t : Tag) (ms : List (Value (List ℕ)))
      → LoadReads (ex_bytes id load ++ after) ex_at id load (find id) t ms
      → Reads v (ex_bytes id load ++ after) t ms (length (ex_bytes id load))
  unfolding read_record read_rest record_remarks
  ex_back v ex f t ms q =
      let c = canonical (negsuc 10) in
      let r = kind_back v (ex_bytes id load ++ after) (id ++ (data_bytes load ++ after)) 0 kinds.Ex tt ex (ex_split id load after) in
      let n : length (ex_bytes id load) ≡ end_at ex_at id load =
      omega (arith, length-append c [], length-append c (id ++ data_bytes load), length-append id (data_bytes load)) in
      (rw (r.reads, f.reads, n) q.0, rw r.reads (omega (arith, r.clean, f.remarked, q.1)))

is_unknown_law : (x : Option Extension) → is_unknown x ≡ true → x ≡ None
is_unknown_law (Some k) e = absurd (false≢true e)
is_unknown_law None e = refl

named_back : (v : Version) (k : Extension) (ms : List (Value (List ℕ))) → SortedContent (Named k) ms → tag_writable v (Named k) ms ≡ true → (after : List ℕ)
    → Reads v (tag_bytes (Named k) ms ++ after) (Named k) ms (length (tag_bytes (Named k) ms))
named_back v k ms sorted w after =
    let l = payload_at k in
    let id = id_at k in
    let load = payload_bytes l ms in
    let o = and_split (has_ex v) (payload_writable l ms && is_data load) w in
    let p = and_split (payload_writable l ms) (is_data load) o.1 in
    let f = ex_frame id load after (id_length k) p.1 in
    ex_back id load after v o.0 f (Named k) ms (rw (id_found k) (payload_back (ex_bytes id load ++ after) ex_at id load after f k l ms sorted p.0 refl))

other_back : (v : Version) (ms : List (Value (List ℕ))) → SortedContent Other ms → tag_writable v Other ms ≡ true → (after : List ℕ)
    → Reads v (tag_bytes Other ms ++ after) Other ms (length (tag_bytes Other ms))
other_back v ms sorted w after =
    let id = bytes_at 0 ms in
    let load = bytes_at 1 ms in
    let o = and_split (has_ex v) (is_unknown (find id) && is_data load) w in
    let p = and_split (is_unknown (find id)) (is_data load) o.1 in
    let t = two_parts ms sorted in
    let n = is_unknown_law (find id) p.0 in
    let f = ex_frame id load after t.0 p.1 in
    ex_back id load after v o.0 f Other ms (rw (n, f.id_shown, f.load_shown, ← t.1) (refl, refl))

pub tag_back : (v : Version) (t : Tag) (ms : List (Value (List ℕ))) → SortedContent t ms → tag_writable v t ms ≡ true → (after : List ℕ)
    → Reads v (tag_bytes t ms ++ after) t ms (length (tag_bytes t ms))
tag_back v (Plain k) ms sorted w after = rest_back v k (rest_of k) ms refl sorted.0 sorted.1 w after
tag_back v (Named k) ms sorted w after = named_back v k ms sorted w after
tag_back v Other ms sorted w after = other_back v ms sorted w after
