-- Fields whose written form stands at a place: read, they have the same meaning and no remark, exactly the written bytes are used,
-- whatever follows. Assumes nothing.
use Prim.Native.Nat.{ℕ, ◌+◌, ◌≤◌, ◌<◌}
use mathlib.Core.Path.{◌≡◌, refl, ◌∙◌, ap}
use mathlib.Core.Bool.{true}
use mathlib.Core.List.{List, [], ◌∷◌, ◌++◌, append_assoc, map}
use native.Mathlib.Omega.{arith}
use native.Mathlib.Nat.{add-zero}
use lib.ListN.{length, drop, length-append}
use lib.Dec.{leb}
use lib.IntN.{pos, negsuc}
use borrow.Author.Tests.{leb-true}
use mir.Syntax.{w32}
use mir.Val.{of_z, to_z}
use mir.Facts.{of_z-to_z}
use Rattle.num.proofs.Signs.{reads_fit}
use Rattle.varint.specs.Written.{canonical}
use Rattle.varint.proofs.Prefix.{canonical_at}
use Rattle.packer.specs.Parts.{part}
use Rattle.packer.specs.declared.Part.{Part}
use Rattle.packer.proofs.Places.{past, past_within, shown_at, raw_at, string_at, string_shown, length_at, data_at, data_shown}
use Rattle.fields.specs.Fields.{Field, int, dt, mask, str, uuid, blob, args, Value, num, bytes, strings, got, read_field, read_fields, mean}
use Rattle.fields.specs.Remarks.{field_remark, remarks}
use Rattle.fields.specs.Writing.{strings_bytes, write_field, write_fields}
use Rattle.fields.specs.steps.Sorts.{all_no_zero}
use Rattle.fields.specs.Forms.{Sorted, AllSorted, writable, all_writable}
use Rattle.fields.proofs.Answers.{and_split}
use Rattle.fields.proofs.Strings.{args_stood}

-- one field
pub record Back (f : Field) (m : Value (List ℕ)) (s : List ℕ) (at : ℕ) : Type 0 where
  pub value : Value Part
  pub reads : read_field f s at ≡ got value (at + length (write_field f m))
  pub same : mean s value ≡ m
  pub clean : field_remark f s at ≡ 0

module _ (s rest : List ℕ) (at : ℕ) (h : at ≤ length s) where
  dt_back : (n : ℕ) → leb n 2147483647 ≡ true → drop at s ≡ canonical (pos n) ++ rest → Back dt (num (pos n)) s at
  dt_back n w e =
      let r = canonical_at (pos n) (record { sfits = omega (arith, leb-true n 2147483647 w) }) s rest at e in
      record { value = num (pos n); reads = rw r; same = refl; clean = rw r }

  mask_back : (n : ℕ) → n < 4294967296 → drop at s ≡ canonical (to_z w32 n) ++ rest → Back mask (num (pos n)) s at
  mask_back n f e =
      let r = canonical_at (to_z w32 n) (reads_fit n) s rest at e in
      let q : of_z w32 (to_z w32 n) ≡ n = of_z-to_z {w = w32} {n = n} (record { fits = f }) in
      record { value = num (pos n); reads = rw (r, q); same = refl; clean = rw r }

  args_back : (bs : List (List ℕ)) → writable args (strings bs) ≡ true → drop at s ≡ write_field args (strings bs) ++ rest → Back args (strings bs) s at
  args_back bs w e =
      let c = canonical (pos (length bs)) in
      let bytes = strings_bytes bs in
      let q = and_split (leb (length bs) 16) (all_no_zero bs) w in
      let l = leb-true (length bs) 16 q.0 in
      let e1 : drop at s ≡ c ++ (bytes ++ rest) = e ∙ append_assoc c bytes rest in
      let r = canonical_at (pos (length bs)) (record { sfits = omega arith }) s (bytes ++ rest) at e1 in
      let g = args_stood bs s rest (at + length c) [] (past_within s c (bytes ++ rest) at e1 h) (omega arith) q.1 (past s c (bytes ++ rest) at e1) in
      let n : at + length c + length bytes ≡ at + length (c ++ bytes) = omega (arith, length-append c bytes) in
      record {
        value = strings g.more;
        reads = rw (r, g.reads, n);
        same = ap strings g.same;
        clean = rw r;
      }

  pub field_back : (f : Field) (m : Value (List ℕ)) → Sorted f m → writable f m ≡ true → drop at s ≡ write_field f m ++ rest → Back f m s at
  field_back int (num z) sorted w e =
      let r = canonical_at z sorted s rest at e in
      record { value = num z; reads = rw r; same = refl; clean = rw r }
  field_back int (bytes b) sorted w e = absurd sorted
  field_back int (strings bs) sorted w e = absurd sorted
  field_back dt (num (pos n)) sorted w e = dt_back n w e
  field_back dt (num (negsuc n)) sorted w e = absurd sorted
  field_back dt (bytes b) sorted w e = absurd sorted
  field_back dt (strings bs) sorted w e = absurd sorted
  field_back mask (num (pos n)) sorted w e = mask_back n sorted e
  field_back mask (num (negsuc n)) sorted w e = absurd sorted
  field_back mask (bytes b) sorted w e = absurd sorted
  field_back mask (strings bs) sorted w e = absurd sorted
  field_back str (num z) sorted w e = absurd sorted
  field_back str (bytes b) sorted w e =
      record {
        value = bytes (part at (length b));
        reads = rw (string_at s b rest at w e);
        same = ap bytes (string_shown s b rest at w e h);
        clean = refl;
      }
  field_back str (strings bs) sorted w e = absurd sorted
  field_back uuid (num z) sorted w e = absurd sorted
  field_back uuid (bytes b) sorted w e =
      record {
        value = bytes (part at (length b));
        reads = rw (← sorted, raw_at s b rest at e h);
        same = ap bytes (shown_at s b rest at e h);
        clean = refl;
      }
  field_back uuid (strings bs) sorted w e = absurd sorted
  field_back blob (num z) sorted w e = absurd sorted
  field_back blob (bytes b) sorted w e =
      record {
        value = bytes (part (at + length (canonical (pos (length b)))) (length b));
        reads = rw (data_at s b rest at w e h);
        same = ap bytes (data_shown s b rest at w e h);
        clean = rw (length_at s b rest at w e);
      }
  field_back blob (strings bs) sorted w e = absurd sorted
  field_back args (num z) sorted w e = absurd sorted
  field_back args (bytes b) sorted w e = absurd sorted
  field_back args (strings bs) sorted w e = args_back bs w e

-- fields, one after the other
pub record AllBack (fs : List Field) (ms : List (Value (List ℕ))) (s : List ℕ) (at : ℕ) : Type 0 where
  pub values : List (Value Part)
  pub reads : read_fields fs s at ≡ got values (at + length (write_fields fs ms))
  pub same : map (mean s) values ≡ ms
  pub clean : remarks fs s at ≡ 0

pub all_back : (fs : List Field) (ms : List (Value (List ℕ))) → AllSorted fs ms → all_writable fs ms ≡ true → (s rest : List ℕ) (at : ℕ)
    → at ≤ length s → drop at s ≡ write_fields fs ms ++ rest → AllBack fs ms s at
all_back [] [] sorted w s rest at h e = record { values = []; reads = rw add-zero; same = refl; clean = refl }
all_back [] (m ∷ ms) sorted w s rest at h e = absurd sorted
all_back (f ∷ fs) [] sorted w s rest at h e = absurd sorted
all_back (f ∷ fs) (m ∷ ms) sorted w s rest at h e =
    let a = write_field f m in
    let ws = write_fields fs ms in
    let c = and_split (writable f m) (all_writable fs ms) w in
    let e1 : drop at s ≡ a ++ (ws ++ rest) = e ∙ append_assoc a ws rest in
    let b = field_back s (ws ++ rest) at h f m sorted.0 c.0 e1 in
    let i = all_back fs ms sorted.1 c.1 s rest (at + length a) (past_within s a (ws ++ rest) at e1 h) (past s a (ws ++ rest) at e1) in
    let q : at + length a + length ws ≡ at + length (a ++ ws) = omega (arith, length-append a ws) in
    record {
      values = b.value ∷ i.values;
      reads = rw (b.reads, i.reads, q);
      same = rw (b.same, i.same);
      clean = rw (b.clean, b.reads, i.clean);
    }
