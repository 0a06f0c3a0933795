-- A record that is read without a remark and without spare payload: its bytes are the written form of its meaning, and the writer
-- doesn't refuse it. Assumes nothing.
use Rattle.std.specs.Prelude.{Option, Some, None}
use Prim.Native.Nat.{ℕ, ◌+◌, ◌-◌, ◌≤◌}
use mathlib.Core.Path.{◌≡◌, refl, sym, ◌∙◌, ap}
use mathlib.Core.Bool.{true}
use mathlib.Core.List.{List, [], ◌∷◌, ◌++◌, append_assoc, append-nil, map}
use native.Mathlib.Omega.{arith}
use lib.ListN.{length, take, drop}
use lib.Seq.{drop-length}
use borrow.Author.Tests.{le-leb}
use Rattle.varint.specs.Integers.{read_int}
use Rattle.varint.specs.Laws.{Bytes}
use Rattle.packer.specs.Parts.{shown, read_raw, read_data}
use Rattle.packer.specs.declared.Part.{Part}
use Rattle.packer.specs.declared.PartRead.{PartRead}
use Rattle.packer.specs.declared.PartRead.TheVariants as parts
use Rattle.packer.specs.declared.DataRead.{DataRead}
use Rattle.packer.specs.declared.DataRead.TheVariants as blobs
use Rattle.fields.specs.Fields.{Field, uuid, blob, Value, bytes, Reading, got, runs_out, refused, read_fields, mean}
use Rattle.fields.specs.Remarks.{remark_in, remarks}
use Rattle.fields.specs.Writing.{write_fields, inside, parts_inside}
use Rattle.fields.specs.Forms.{all_writable}
use Rattle.fields.proofs.Answers.{not_out, not_refused, same_got, and_both}
use Rattle.fields.proofs.Taken.{field_taken}
use Rattle.fields.proofs.AllTaken.{fields_taken}
use Rattle.kinds.specs.Kinds.{read_kind}
use Rattle.extensions.specs.Extensions.{Payload, shaped, all_data, payload_at, find}
use Rattle.extensions.specs.declared.Extension.{Extension}
use Rattle.item.specs.Records.{
  Content,
  content,
  Rest,
  fields,
  extension,
  rest_of,
  as_content,
  of_payload,
  of_found,
  read_ex,
  read_as,
  read_rest,
  read_record,
}
use Rattle.item.specs.Remarks.{payload_remarks, found_remarks, ex_remarks, rest_remarks, record_remarks}
use Rattle.item.specs.steps.Reading.{up_to, after_data, after_id, after_kind, data_remarks, id_remarks, remarks_after}
use Rattle.kinds.specs.declared.Version.{Version}
use Rattle.kinds.specs.declared.Kind.{Kind}
use Rattle.kinds.specs.declared.Kind.TheVariants as kinds
use Rattle.item.specs.declared.Tag.TheVariants.{Plain, Named, Other}
use Rattle.ids.proofs.Find.{found_is_law}
use Rattle.written.specs.Written.{kind_bytes, payload_bytes, ex_bytes, write_content, has_ex}
use Rattle.written.specs.Form.{kind_writable, payload_writable, content_writable}
use Rattle.written.specs.Laws.{Same}
use Rattle.written.proofs.Windows.{front, bytes_take, values_inside}
use Rattle.written.proofs.KindLaws.{KindTaken, ex_only, kind_taken}
use Rattle.written.proofs.Frames.{ex_split, load_at, end_at, id_part, load_part, Frame, framed}

-- ---- kinds other than the extension's

fields_same : (v : Version) (s : List ℕ) → Bytes s → (k : Kind) (n : ℕ) → KindTaken v s 0 k n → (fs gs : List Field) → rest_of k ≡ fields fs gs
    → s ≡ kind_bytes k ++ drop n s → (vs : List (Value Part)) (next : ℕ) → read_fields (fs ++ gs) s n ≡ got vs next
    → remarks (fs ++ gs) s n ≡ 0 → Same v s (content (Plain k) vs) next
unfolding write_content content_writable
fields_same v s b k n taken fs gs e start vs next x r =
    let t = fields_taken (fs ++ gs) s n taken.within vs next x in
    let ws = write_fields (fs ++ gs) (map (mean s) vs) in
    let ok : kind_writable k ≡ true = rw e at taken.allowed in
    record {
      within = t.within;
      inside = t.inner;
      writable = rw e (and_both (kind_writable k) (all_writable (fs ++ gs) (map (mean s) vs)) ok t.written);
      same =
          rw e (front s (kind_bytes k ++ ws) next t.within
          (start ∙ ap (λ l. kind_bytes k ++ l) (t.whole b r) ∙ sym (append_assoc (kind_bytes k) ws (drop next s))));
    }

-- ---- extensions

module _ (v : Version) (ex : has_ex v ≡ true) (s : List ℕ) (b : Bytes s) (at : ℕ) (start : s ≡ kind_bytes kinds.Ex ++ drop at s)
    (id load rest : List ℕ) (f : Frame s at id load rest) where
  ex_same : ex_bytes id load ≡ take (end_at at id load) s
  ex_same =
      front s (ex_bytes id load) (end_at at id load) f.within
      (start
      ∙ ap (λ l. kind_bytes kinds.Ex ++ l) f.stands
      ∙ sym (ex_split id load rest)
      ∙ ap (λ l. ex_bytes id load ++ l) (sym f.after))

  module _ (e : Extension) (known : find id ≡ Some e) where
    named_same : (l : Payload) → payload_at e ≡ l → (vs : List (Value Part)) → parts_inside s vs ≡ true
        → payload_writable l (map (mean s) vs) ≡ true → payload_bytes l (map (mean s) vs) ≡ load → Same v s (content (Named e) vs) (end_at at id load)
    unfolding write_content content_writable
    named_same l q vs i w p =
        let j = found_is_law id e known in
        record {
          within = f.within;
          inside = i;
          writable = rw (q, ex, w, p) f.small;
          same = rw (j, q, p) ex_same;
        }

    whole_same : payload_at e ≡ all_data → Same v s (content (Named e) (bytes (load_part at id load) ∷ [])) (end_at at id load)
    whole_same q =
        let i : inside s (load_part at id load) ≡ true = le-leb (load_at at id load + length load) (length s) (omega (arith, f.ends, f.within)) in
        named_same all_data q (bytes (load_part at id load) ∷ []) (rw i) refl f.load_shown

    shaped_same : (fs : List Field) → payload_at e ≡ shaped fs → (vs : List (Value Part)) (m : ℕ)
        → read_fields fs (take (end_at at id load) s) (load_at at id load) ≡ got vs m
        → remarks fs (take (end_at at id load) s) (load_at at id load) + (end_at at id load - m) ≡ 0
        → Same v s (content (Named e) vs) (end_at at id load)
    shaped_same fs q vs m x r =
        let i = take (end_at at id load) s in
        let t = fields_taken fs i (load_at at id load) f.load_starts vs m x in
        let y = f.same_meaning fs vs m x in
        let ws = write_fields fs (map (mean i) vs) in
        let z : m ≡ length i = omega (arith, t.within, f.inner) in
        let w : load ≡ ws =
        sym f.load_stands ∙ t.whole (bytes_take s (end_at at id load) f.within b) (omega arith) ∙ rw (z, drop-length i, append-nil ws) in
        named_same (shaped fs) q vs (values_inside i s (omega (arith, f.inner, f.within)) vs t.inner) (rw y t.written) (rw y (sym w))

    fields_by : (fs : List Field) → payload_at e ≡ shaped fs → (x : Reading (List (Value Part)))
        → read_fields fs (take (end_at at id load) s) (load_at at id load) ≡ x → (c : Content Part) (next : ℕ)
        → up_to (end_at at id load) (as_content (Named e) x) ≡ got c next
        → payload_remarks s (load_part at id load) (shaped fs) (end_at at id load) ≡ 0 → Same v s c next
    fields_by fs q (got vs m) x c next g r = same_got (Same v s) g (shaped_same fs q vs m x (rw x at r))
    fields_by fs q runs_out x c next g r = not_out g
    fields_by fs q (refused y) x c next g r = not_refused g

    payload_same : (l : Payload) → payload_at e ≡ l → (c : Content Part) (next : ℕ)
        → of_payload s (load_part at id load) e l (end_at at id load) ≡ got c next
        → payload_remarks s (load_part at id load) l (end_at at id load) ≡ 0 → Same v s c next
    payload_same (shaped fs) q c next g r = fields_by fs q (read_fields fs (take (end_at at id load) s) (load_at at id load)) refl c next g r
    payload_same all_data q c next g r = same_got (Same v s) g (whole_same q)

  other_same : find id ≡ None → Same v s (content Other (bytes (id_part at id) ∷ bytes (load_part at id load) ∷ [])) (end_at at id load)
  unfolding write_content content_writable
  other_same n =
      let i : inside s (id_part at id) ≡ true = le-leb (at + length id) (length s) (omega (arith, f.within)) in
      let l : inside s (load_part at id load) ≡ true = le-leb (load_at at id load + length load) (length s) (omega (arith, f.ends, f.within)) in
      record {
        within = f.within;
        inside = rw (i, l);
        writable = rw (ex, f.id_shown, f.load_shown, n) f.small;
        same = rw (f.id_shown, f.load_shown) ex_same;
      }

  found_same : (x : Option Extension) → find id ≡ x → (c : Content Part) (next : ℕ)
      → of_found s (id_part at id) (load_part at id load) x (end_at at id load) ≡ got c next
      → found_remarks s (load_part at id load) x (end_at at id load) ≡ 0 → Same v s c next
  found_same (Some e) q c next g r = payload_same e q (payload_at e) refl c next g r
  found_same None q c next g r = same_got (Same v s) g (other_same q)

-- an extension that was read without a remark on its length
record Framed (s : List ℕ) (at : ℕ) : Type 0 where
  id : List ℕ
  load : List ℕ
  rest : List ℕ
  frame : Frame s at id load rest

data_framed : (s : List ℕ) → Bytes s → (at n : ℕ) (p : Part) → at ≤ length s → read_raw 16 s at ≡ parts.Got p n → (x : DataRead) → read_data s n ≡ x
    → (c : Content Part) (next : ℕ) → after_data s p x ≡ got c next → remark_in (read_int s n) + data_remarks s p x ≡ 0 → Framed s at
data_framed s b at n p h e (blobs.Got q m) x c next g r =
    let i = field_taken s at h uuid (bytes p) n (rw e) in
    let d = field_taken s n i.within blob (bytes q) m (rw x) in
    record {
      id = shown s p;
      load = shown s q;
      rest = drop m s;
      frame =
          framed s at (shown s p) (shown s q) (drop m s) h i.sorted d.written
          (i.whole b refl ∙ ap (λ l. shown s p ++ l) (d.whole b (omega arith)));
    }
data_framed s b at n p h e blobs.RunsOut x c next g r = not_out g
data_framed s b at n p h e blobs.NegativeLength x c next g r = not_refused g

id_framed : (s : List ℕ) → Bytes s → (at : ℕ) → at ≤ length s → (x : PartRead) → read_raw 16 s at ≡ x → (c : Content Part) (next : ℕ)
    → after_id s x ≡ got c next → id_remarks s x ≡ 0 → Framed s at
id_framed s b at h (parts.Got p n) x c next g r = data_framed s b at n p h x (read_data s n) refl c next g r
id_framed s b at h parts.RunsOut x c next g r = not_out g

ex_framed : (s : List ℕ) → Bytes s → (at : ℕ) → at ≤ length s → (c : Content Part) (next : ℕ) → read_ex s at ≡ got c next → ex_remarks s at ≡ 0 → Framed s at
unfolding read_ex ex_remarks
ex_framed s b at h c next g r = id_framed s b at h (read_raw 16 s at) refl c next g r

-- ---- a record

module _ (v : Version) (s : List ℕ) (b : Bytes s) (k : Kind) (n : ℕ) (taken : KindTaken v s 0 k n) (start : s ≡ kind_bytes k ++ drop n s)
    (c : Content Part) (next : ℕ) where
  content_same : (fs gs : List Field) → rest_of k ≡ fields fs gs → (x : Reading (List (Value Part))) → read_fields (fs ++ gs) s n ≡ x
      → as_content (Plain k) x ≡ got c next → remarks (fs ++ gs) s n ≡ 0 → Same v s c next
  content_same fs gs e (got vs m) x g r =
      same_got (Same v s) g (fields_same v s b k n taken fs gs e start vs m x r)
  content_same fs gs e runs_out x g r = not_out g
  content_same fs gs e (refused q) x g r = not_refused g

  rest_same : (rest : Rest) → rest_of k ≡ rest → read_as s k rest n ≡ got c next → rest_remarks s rest n ≡ 0 → Same v s c next
  rest_same (fields fs gs) e g r = content_same fs gs e (read_fields (fs ++ gs) s n) refl g r
  rest_same extension e g r =
      let ex : has_ex v ≡ true = rw e at taken.allowed in
      let i = ex_framed s b n taken.within c next g r in
      let f = i.frame in
      found_same v ex s b n (rw (ex_only k e) at start) i.id i.load i.rest f (find i.id) refl c next
      (sym f.reads ∙ g) (sym f.remarked ∙ r)

kind_same : (v : Version) (s : List ℕ) → Bytes s → (c : Content Part) (next : ℕ) (x : Reading Kind) → read_kind v s 0 ≡ x
    → after_kind s x ≡ got c next → remarks_after s (read_int s 0) x ≡ 0 → Same v s c next
unfolding read_rest
kind_same v s b c next (got k n) x g r =
    let t = kind_taken v s 0 (omega arith) k n x in
    rest_same v s b k n t (t.whole b (omega arith)) c next (rest_of k) refl g (omega arith)
kind_same v s b c next runs_out x g r = not_out g
kind_same v s b c next (refused q) x g r = not_refused g

pub record_same : (v : Version) (s : List ℕ) (c : Content Part) (next : ℕ) → Bytes s → read_record v s 0 ≡ got c next → record_remarks v s 0 ≡ 0 → Same v s c next
unfolding read_record record_remarks
record_same v s c next b g r = kind_same v s b c next (read_kind v s 0) refl g r
