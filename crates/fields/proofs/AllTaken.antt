-- Fields that were read, one after the other: what proofs/Taken.antt says of one holds of all. Assumes nothing.
use Prim.Native.Nat.{ℕ, ◌+◌, ◌≤◌}
use mathlib.Core.Path.{◌≡◌, refl, sym, ◌∙◌, ap}
use mathlib.Core.Bool.{true}
use mathlib.Core.List.{List, [], ◌∷◌, ◌++◌, append_assoc, map}
use native.Mathlib.Omega.{arith}
use lib.ListN.{length, drop}
use Rattle.varint.specs.Laws.{Bytes}
use Rattle.packer.specs.declared.Part.{Part}
use Rattle.fields.specs.Fields.{Field, Value, Reading, got, runs_out, refused, read_field, read_fields, mean}
use Rattle.fields.specs.steps.Sorts.{push, and_then}
use Rattle.fields.specs.Remarks.{field_remark, remarks}
use Rattle.fields.specs.Writing.{write_field, write_fields, parts_inside}
use Rattle.fields.specs.steps.Sorts.{value_inside}
use Rattle.fields.specs.Forms.{AllSorted, writable, all_writable}
use Rattle.fields.specs.Laws.{is_out}
use Rattle.fields.proofs.Steady.{all_steady}
use Rattle.fields.proofs.Answers.{not_out, not_refused, same_got, and_both}
use Rattle.fields.proofs.Taken.{Taken, field_taken}

pub record AllTaken (fs : List Field) (s : List ℕ) (at : ℕ) (vs : List (Value Part)) (next : ℕ) : Type 0 where
  pub within : next ≤ length s
  pub prefix : (t : List ℕ) → read_fields fs (s ++ t) at ≡ got vs next
  pub shows : (t : List ℕ) → map (mean (s ++ t)) vs ≡ map (mean s) vs
  pub inner : parts_inside s vs ≡ true
  pub sorted : AllSorted fs (map (mean s) vs)
  pub written : all_writable fs (map (mean s) vs) ≡ true
  pub whole : Bytes s → remarks fs s at ≡ 0 → drop at s ≡ write_fields fs (map (mean s) vs) ++ drop next s

stays : (fs : List Field) (s : List ℕ) (at : ℕ) (vs : List (Value Part)) (next : ℕ) → read_fields fs s at ≡ got vs next
    → (t : List ℕ) → read_fields fs (s ++ t) at ≡ got vs next
stays fs s at vs next e t = all_steady fs s t at (ap is_out e) ∙ e

-- one field, then the others
module _ (f : Field) (fs : List Field) (s : List ℕ) (at : ℕ) where
  push_taken : (m : ℕ) (v : Value Part) → read_field f s at ≡ got v m → Taken f s at v m → (y : Reading (List (Value Part))) → read_fields fs s m ≡ y
      → ((vs : List (Value Part)) (next : ℕ) → read_fields fs s m ≡ got vs next → AllTaken fs s m vs next)
      → (vs : List (Value Part)) (next : ℕ) → push v y ≡ got vs next → AllTaken (f ∷ fs) s at vs next
  push_taken m v x t (got ws n) y g vs next e =
      let i = g ws n y in
      let w = write_field f (mean s v) in
      same_got (AllTaken (f ∷ fs) s at) e (record {
        within = i.within;
        prefix = stays (f ∷ fs) s at (v ∷ ws) n (rw (x, y));
        shows = λ u. rw (t.shows u, i.shows u);
        inner = and_both (value_inside s v) (parts_inside s ws) t.inner i.inner;
        sorted = (t.sorted, i.sorted);
        written = and_both (writable f (mean s v)) (all_writable fs (map (mean s) ws)) t.written i.written;
        whole =
            λ b z.
            let r : field_remark f s at + remarks fs s m ≡ 0 = rw x at z in
            t.whole b (omega arith)
            ∙ ap (λ l. w ++ l) (i.whole b (omega arith))
            ∙ sym (append_assoc w (write_fields fs (map (mean s) ws)) (drop n s));
      })
  push_taken m v x t runs_out y g vs next e = not_out e
  push_taken m v x t (refused r) y g vs next e = not_refused e

  then_taken : at ≤ length s → (x : Reading (Value Part)) → read_field f s at ≡ x
      → ((m : ℕ) → m ≤ length s → (vs : List (Value Part)) (next : ℕ) → read_fields fs s m ≡ got vs next → AllTaken fs s m vs next)
      → (vs : List (Value Part)) (next : ℕ) → and_then x (read_fields fs s) ≡ got vs next → AllTaken (f ∷ fs) s at vs next
  then_taken h (got v m) x g vs next e =
      let t = field_taken s at h f v m x in
      push_taken m v x t (read_fields fs s m) refl (g m t.within) vs next e
  then_taken h runs_out x g vs next e = not_out e
  then_taken h (refused r) x g vs next e = not_refused e

pub fields_taken : (fs : List Field) (s : List ℕ) (at : ℕ) → at ≤ length s → (vs : List (Value Part)) (next : ℕ) → read_fields fs s at ≡ got vs next → AllTaken fs s at vs next
fields_taken [] s at h vs next e =
    same_got (AllTaken [] s at) e (record {
      within = h;
      prefix = λ t. refl;
      shows = λ t. refl;
      inner = refl;
      sorted = tt;
      written = refl;
      whole = λ b z. refl;
    })
fields_taken (f ∷ fs) s at h vs next e = then_taken f fs s at h (read_field f s at) refl (fields_taken fs s) vs next e
