-- An extension that stands at a place: 16 bytes of identifier, then data. What reading it says, and where its data stand. Assumes
-- nothing.
use Prim.Native.Nat.{ℕ, ◌+◌, ◌≤◌}
use mathlib.Core.Path.{◌≡◌, sym, ◌∙◌, ap}
use mathlib.Core.Bool.{true}
use mathlib.Core.List.{List, [], ◌++◌, append_assoc, map}
use native.Mathlib.Omega.{arith}
use native.Mathlib.Nat.{zero-add}
use lib.ListN.{length, take, drop, length-append, take-append-drop}
use lib.Seq.{take-add, drop_at, length-take-le}
use lib.IntN.{negsuc}
use Rattle.varint.specs.Written.{canonical}
use Rattle.packer.specs.Parts.{part, shown, read_raw, read_data}
use Rattle.packer.specs.Texts.{is_data, data_bytes}
use Rattle.packer.specs.declared.Part.{Part}
use Rattle.packer.specs.declared.PartRead.TheVariants.{Got}
use Rattle.packer.specs.declared.DataRead.TheVariants as blobs
use Rattle.packer.proofs.Places.{past, past_within, shown_at, raw_at, length_at, data_at, data_shown}
use Rattle.packer.proofs.Reading.{shown_in}
use Rattle.packer.proofs.Texts.{lead}
use Rattle.fields.specs.Fields.{Field, Value, got, read_fields, mean}
use Rattle.fields.proofs.AllTaken.{fields_taken}
use Rattle.extensions.specs.Extensions.{find}
use Rattle.item.specs.Records.{of_found, read_ex}
use Rattle.item.specs.Remarks.{found_remarks, ex_remarks}
use Rattle.kinds.specs.declared.Kind.TheVariants as kinds
use Rattle.written.specs.Written.{kind_bytes, ex_bytes}

-- the bytes of an extension and what follows: its kind, then these
pub ex_split : (id load rest : List ℕ) → ex_bytes id load ++ rest ≡ kind_bytes kinds.Ex ++ (id ++ (data_bytes load ++ rest))
ex_split id load rest =
    let c = canonical (negsuc 10) in
    append_assoc c (id ++ data_bytes load) rest
    ∙ ap (λ l. c ++ l) (append_assoc id (data_bytes load) rest)
    ∙ sym (append_assoc c [] (id ++ (data_bytes load ++ rest)))

-- the place of the data's bytes, past their length, and the place past them
abbrev pub load_at : ℕ → List ℕ → List ℕ → ℕ
load_at at id load = at + length id + length (lead load)

abbrev pub end_at : ℕ → List ℕ → List ℕ → ℕ
end_at at id load = at + length id + length (data_bytes load)

abbrev pub id_part : ℕ → List ℕ → Part
id_part at id = part at (length id)

abbrev pub load_part : ℕ → List ℕ → List ℕ → Part
load_part at id load = part (load_at at id load) (length load)

-- the identifier and the data stand at a place
pub record Frame (s : List ℕ) (at : ℕ) (id load rest : List ℕ) : Type 0 where
  pub small : is_data load ≡ true
  pub stands : drop at s ≡ id ++ (data_bytes load ++ rest)
  pub after : drop (end_at at id load) s ≡ rest
  pub within : end_at at id load ≤ length s
  pub ends : end_at at id load ≡ load_at at id load + length load
  pub id_shown : shown s (id_part at id) ≡ id
  pub load_shown : shown s (load_part at id load) ≡ load
  -- what reading says of them
  pub reads : read_ex s at ≡ of_found s (id_part at id) (load_part at id load) (find id) (end_at at id load)
  pub remarked : ex_remarks s at ≡ found_remarks s (load_part at id load) (find id) (end_at at id load)
  -- the window that ends with the data; fields that were read in it mean the same in the whole one
  pub inner : length (take (end_at at id load) s) ≡ end_at at id load
  pub load_starts : load_at at id load ≤ length (take (end_at at id load) s)
  pub load_stands : drop (load_at at id load) (take (end_at at id load) s) ≡ load
  pub same_meaning :
      (fs : List Field) (vs : List (Value Part)) (m : ℕ) → read_fields fs (take (end_at at id load) s) (load_at at id load) ≡ got vs m
      → map (mean s) vs ≡ map (mean (take (end_at at id load) s)) vs

module _ (s : List ℕ) (at : ℕ) (id load rest : List ℕ) (starts : at ≤ length s) (sixteen : length id ≡ 16) (small : is_data load ≡ true)
    (stands : drop at s ≡ id ++ (data_bytes load ++ rest)) where
  data_stands : drop (at + length id) s ≡ data_bytes load ++ rest
  data_stands = past s id (data_bytes load ++ rest) at stands

  data_starts : at + length id ≤ length s
  data_starts = past_within s id (data_bytes load ++ rest) at stands starts

  ends : end_at at id load ≡ load_at at id load + length load
  ends = omega (arith, length-append (lead load) load)

  within : end_at at id load ≤ length s
  within = past_within s (data_bytes load) rest (at + length id) data_stands data_starts

  id_shown : shown s (id_part at id) ≡ id
  id_shown = shown_at s id (data_bytes load ++ rest) at stands starts

  load_shown : shown s (load_part at id load) ≡ load
  load_shown = data_shown s load rest (at + length id) small data_stands data_starts

  id_read : read_raw 16 s at ≡ Got (id_part at id) (at + length id)
  id_read = rw (← sixteen) (raw_at s id (data_bytes load ++ rest) at stands starts)

  data_read_law : read_data s (at + length id) ≡ blobs.Got (load_part at id load) (end_at at id load)
  data_read_law = data_at s load rest (at + length id) small data_stands data_starts

  reads : read_ex s at ≡ of_found s (id_part at id) (load_part at id load) (find id) (end_at at id load)
  unfolding read_ex
  reads = rw (id_read, data_read_law, id_shown)

  remarked : ex_remarks s at ≡ found_remarks s (load_part at id load) (find id) (end_at at id load)
  unfolding ex_remarks
  remarked = rw (id_read, data_read_law, length_at s load rest (at + length id) small data_stands, zero-add, id_shown)

  inner : length (take (end_at at id load) s) ≡ end_at at id load
  inner = length-take-le (end_at at id load) s within

  load_starts : load_at at id load ≤ length (take (end_at at id load) s)
  load_starts = omega (arith, inner, ends)

  load_stands : drop (load_at at id load) (take (end_at at id load) s) ≡ load
  load_stands =
      let l = load_at at id load in
      let n = length load in
      rw (ends, take-add)
      (drop_at (take l s) (take n (drop l s)) l (length-take-le l s (omega (arith, ends, within)))
      ∙ sym (shown_in s l n (omega (arith, ends, within)))
      ∙ load_shown)

  same_meaning : (fs : List Field) (vs : List (Value Part)) (m : ℕ) → read_fields fs (take (end_at at id load) s) (load_at at id load) ≡ got vs m
      → map (mean s) vs ≡ map (mean (take (end_at at id load) s)) vs
  same_meaning fs vs m x =
      let e = end_at at id load in
      rw (take-append-drop e s) at ((fields_taken fs (take e s) (load_at at id load) load_starts vs m x).shows (drop e s))

  pub framed : Frame s at id load rest
  framed =
      record {
        small = small;
        stands = stands;
        after = past s (data_bytes load) rest (at + length id) data_stands;
        within = within;
        ends = ends;
        id_shown = id_shown;
        load_shown = load_shown;
        reads = reads;
        remarked = remarked;
        inner = inner;
        load_starts = load_starts;
        load_stands = load_stands;
        same_meaning = same_meaning;
      }
