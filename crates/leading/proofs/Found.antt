-- A written record at the front of a window is read again, with its kind or behind a pending kind, whatever follows. Assumes nothing.
use Rattle.std.specs.Prelude.{Some, None}
use Prim.Native.Nat.{ℕ, ◌+◌, ◌≤◌}
use mathlib.Core.Path.{◌≡◌, refl, sym, ◌∙◌, ap}
use mathlib.Core.Bool.{true}
use mathlib.Core.List.{List, [], ◌∷◌, ◌++◌, append_assoc, append-nil, map}
use native.Mathlib.Omega.{arith}
use native.Mathlib.Nat.{zero-add}
use lib.ListN.{length, take, drop, length-append}
use lib.Seq.{drop-append_seam}
use lib.IntN.{ℤ}
use Rattle.packer.specs.Texts.{is_data, data_bytes}
use Rattle.packer.specs.declared.Part.{Part}
use Rattle.fields.specs.Fields.{Field, Value, num, bytes, strings, got, mean}
use Rattle.fields.specs.Writing.{write_fields}
use Rattle.fields.specs.Forms.{AllSorted, all_writable}
use Rattle.fields.specs.Views.{numbers}
use Rattle.fields.proofs.Back.{all_back}
use Rattle.kinds.specs.Kinds.{has_ex}
use Rattle.kinds.specs.declared.Version.{Version}
use Rattle.kinds.specs.declared.Kind.{Kind}
use Rattle.kinds.specs.declared.Kind.TheVariants as kinds
use Rattle.extensions.specs.Extensions.{shaped, id_at, payload_at}
use Rattle.extensions.specs.declared.Extension.{Extension}
use Rattle.ids.proofs.Table.{id_found, id_length}
use Rattle.item.specs.Records.{content, fields, rest_of, read_rest}
use Rattle.item.specs.declared.Tag.{Tag}
use Rattle.item.specs.declared.Tag.TheVariants.{Plain, Named}
use Rattle.written.specs.Written.{kind_bytes, write_content}
use Rattle.written.specs.Form.{kind_writable}
use Rattle.written.specs.Laws.{kind_numbers}
use Rattle.written.proofs.KindLaws.{Allowed, kind_back}
use Rattle.written.proofs.Frames.{end_at, load_at, framed}
use Rattle.state.specs.Reading.{next_kind}
use Rattle.state.specs.Acts.{HadKind, Had}
use Rattle.state.specs.declared.Scalars.{Scalars}

-- behind its kind, a record of kind k is read from a place to byte n: its tag is t, and its values mean ms
pub record Back (w : List ℕ) (k : Kind) (t : Tag) (ms : List (Value (List ℕ))) (at n : ℕ) : Type 0 where
  pub values : List (Value Part)
  pub reads : read_rest k w at ≡ got (content t values) n
  pub same : map (mean w) values ≡ ms

-- a record that has a written form in a version: its kind, and bytes that are read back
pub record Form (v : Version) (k : Kind) (t : Tag) (ms : List (Value (List ℕ))) : Type 0 where
  pub values : List ℕ
  pub whole : write_content (content t ms) ≡ kind_bytes k ++ values
  pub client : kind_numbers k
  pub allowed : Allowed v k (rest_of k)
  pub back : (w behind : List ℕ) (at : ℕ) → at ≤ length w → drop at w ≡ values ++ behind → Back w k t ms at (at + length values)

-- a kind other than the extension's, and values of its fields
pub fields_form : (v : Version) (k : Kind) (own beside : List Field) (ms : List (Value (List ℕ))) → rest_of k ≡ fields own beside → kind_numbers k
    → kind_writable k ≡ true → AllSorted (own ++ beside) ms → all_writable (own ++ beside) ms ≡ true → Form v k (Plain k) ms
unfolding write_content read_rest
fields_form v k own beside ms rest client kind sorted writable =
    record {
      values = write_fields (own ++ beside) ms;
      whole = rw rest;
      client = client;
      allowed = rw rest kind;
      back =
          λ w behind at l e.
          let b = all_back (own ++ beside) ms sorted writable w behind at l e in
          record { values = b.values; reads = rw (rest, b.reads); same = b.same };
    }

-- an extension whose data are fields
module _ (v : Version) (x : Extension) (fs : List Field) (ms : List (Value (List ℕ))) (load : payload_at x ≡ shaped fs)
    (sorted : AllSorted fs ms) (writable : all_writable fs ms ≡ true) (small : is_data (write_fields fs ms) ≡ true) where
  abbrev id : List ℕ
  id = id_at x

  abbrev ws : List ℕ
  ws = write_fields fs ms

  ex_back : (w behind : List ℕ) (at : ℕ) → at ≤ length w → drop at w ≡ (id ++ data_bytes ws) ++ behind
      → Back w kinds.Ex (Named x) ms at (at + length (id ++ data_bytes ws))
  unfolding read_rest
  ex_back w behind at l e =
      let f = framed w at id ws behind l (id_length x) small (e ∙ append_assoc id (data_bytes ws) behind) in
      let n = end_at at id ws in
      let b = all_back fs ms sorted writable (take n w) [] (load_at at id ws) f.load_starts (f.load_stands ∙ sym (append-nil ws)) in
      let q : at + length (id ++ data_bytes ws) ≡ n = omega (arith, length-append id (data_bytes ws)) in
      record {
        values = b.values;
        reads = rw (f.reads, id_found x, load, b.reads, q);
        same = f.same_meaning fs b.values _ b.reads ∙ b.same;
      }

  pub ex_form : has_ex v ≡ true → Form v kinds.Ex (Named x) ms
  unfolding write_content
  ex_form ex =
      record {
        values = id ++ data_bytes ws;
        whole = rw (load, append-nil);
        client = tt;
        allowed = ex;
        back = ex_back;
      }

-- a record of kind k was read, and ends before byte n: its tag is t, and its values mean ms
pub record Found (s : Scalars) (w : List ℕ) (k : Kind) (t : Tag) (ms : List (Value (List ℕ))) (n : ℕ) : Type 0 where
  pub values : List (Value Part)
  pub had : Had s w k (content t values) n
  pub same : map (mean w) values ≡ ms

module _ {k : Kind} {t : Tag} {ms : List (Value (List ℕ))} (s : Scalars) (form : Form s.version k t ms) where
  -- the values stand behind the kind
  values_found : (w behind : List ℕ) (at : ℕ) → HadKind s w k at → at ≤ length w → drop at w ≡ form.values ++ behind
      → Found s w k t ms (at + length form.values)
  values_found w behind at h l e =
      let b = form.back w behind at l e in
      record { values = b.values; had = record { at = at; kind = h; rest = b.reads }; same = b.same }

  -- the kind is read first
  pub kind_had : s.pending ≡ None → (behind : List ℕ) → HadKind s (kind_bytes k ++ behind) k (length (kind_bytes k))
  unfolding next_kind
  kind_had p behind =
      record { read = rw p ((kind_back s.version (kind_bytes k ++ behind) behind 0 k form.client form.allowed refl).reads ∙ rw zero-add) }

  pub read_found : s.pending ≡ None → (behind : List ℕ)
      → Found s ((kind_bytes k ++ form.values) ++ behind) k t ms (length (kind_bytes k ++ form.values))
  read_found p behind =
      let c = kind_bytes k in
      let ws = form.values in
      rw (append_assoc c ws behind, length-append c ws)
      (values_found (c ++ (ws ++ behind)) behind (length c) (kind_had p (ws ++ behind)) (simp (length-append) (omega arith)) (drop-append_seam c (ws ++ behind)))

  -- the kind was pending
  pub pending_found : s.pending ≡ Some k → (behind : List ℕ) → Found s (form.values ++ behind) k t ms (length form.values)
  unfolding next_kind
  pending_found p behind =
      rw zero-add at (values_found (form.values ++ behind) behind 0 (record { read = rw p }) (omega arith) refl)

-- ---- where all values are numbers

numbers_meant : (w : List ℕ) (vs : List (Value Part)) (zs : List ℤ) → map (mean w) vs ≡ map num zs → vs ≡ map num zs
numbers_meant w [] [] e = refl
numbers_meant w [] (z ∷ zs) e = cc
numbers_meant w (v ∷ vs) [] e = cc
numbers_meant w (num x ∷ vs) (z ∷ zs) e =
    let q : x ≡ z = cc in
    let r : map (mean w) vs ≡ map num zs = cc in
    rw (q, numbers_meant w vs zs r)
numbers_meant w (bytes p ∷ vs) (z ∷ zs) e = cc
numbers_meant w (strings ps ∷ vs) (z ∷ zs) e = cc

pub numbers_found : {s : Scalars} {w : List ℕ} {k : Kind} {t : Tag} {n : ℕ} (zs : List ℤ) → Found s w k t (map num zs) n
    → Had s w k (content t (map num zs)) n
numbers_found {w = w} zs f = rw (numbers_meant w f.values zs f.same) at f.had

pub numbers_of : (zs : List ℤ) → numbers (map num zs) ≡ zs
unfolding numbers
numbers_of [] = refl
numbers_of (z ∷ zs) = ap (λ l. z ∷ l) (numbers_of zs)
