-- Fields other than dt, data and the arguments never refuse, so the fields in an extension's data never do. Assumes nothing.
use Rattle.std.specs.Prelude.{Option, Some, None}
use Prim.Native.Nat.{ℕ}
use mathlib.Core.Path.{◌≡◌, refl}
use mathlib.Core.Bool.{Bool, true, false, false≢true, ◌&&◌}
use mathlib.Core.List.{List, [], ◌∷◌}
use native.Mathlib.Omega.{arith}
use lib.ListN.{take}
use Rattle.refusal.specs.declared.Refusal.{Refusal}
use Rattle.varint.specs.Integers.{read_int}
use Rattle.varint.specs.declared.IntRead.{IntRead}
use Rattle.varint.specs.declared.IntRead.TheVariants as ints
use Rattle.packer.specs.Parts.{read_string, read_raw}
use Rattle.packer.specs.declared.Part.{Part}
use Rattle.packer.specs.declared.PartRead.{PartRead}
use Rattle.packer.specs.declared.PartRead.TheVariants as parts
use Rattle.fields.specs.Fields.{Field, int, dt, mask, str, uuid, blob, args, Value, Reading, got, runs_out, refused, read_field, read_fields}
use Rattle.fields.specs.steps.Sorts.{int_field, mask_field, part_field, push, and_then}
use Rattle.fields.proofs.Answers.{and_split}
use Rattle.extensions.specs.Extensions.{Payload, shaped, all_data, extension_row, payload_at, all}
use Rattle.extensions.specs.declared.Extension.{Extension}
use Rattle.extensions.proofs.Each.{tested}
use Rattle.item.specs.Records.{Content, as_content, of_payload, of_found}
use Rattle.item.specs.steps.Reading.{up_to}
use Rattle.item.specs.declared.Tag.{Tag}
use Rattle.item.specs.declared.Tag.TheVariants.{Named}

pub not_got : {A : Type 0} {C : Type 0} {x : A} {n : ℕ} {r : Refusal} → got x n ≡ refused r → C
not_got e = let z : ◌≡◌ {A = ℕ} 0 1 = cc in absurd (omega arith)

pub not_out : {A : Type 0} {C : Type 0} {r : Refusal} → ◌≡◌ {A = Reading A} runs_out (refused r) → C
not_out e = let z : ◌≡◌ {A = ℕ} 0 1 = cc in absurd (omega arith)

-- ---- fields that refuse nothing

abbrev pub calm : Field → Bool
calm int = true
calm dt = false
calm mask = true
calm str = true
calm uuid = true
calm blob = false
calm args = false

abbrev pub all_calm : List Field → Bool
all_calm [] = true
all_calm (f ∷ fs) = calm f && all_calm fs

module _ {r : Refusal} where
  pub push_calm : {A : Type 0} (v : A) (x : Reading (List A)) → push v x ≡ refused r → x ≡ refused r
  push_calm v (got vs n) e = not_got e
  push_calm v runs_out e = not_out e
  push_calm v (refused q) e = cc

  pub as_calm : (t : Tag) (x : Reading (List (Value Part))) → as_content t x ≡ refused r → x ≡ refused r
  as_calm t (got vs n) e = not_got e
  as_calm t runs_out e = not_out e
  as_calm t (refused q) e = cc

  upto_calm : (n : ℕ) (x : Reading (Content Part)) → up_to n x ≡ refused r → x ≡ refused r
  upto_calm n (got vs m) e = not_got e
  upto_calm n runs_out e = not_out e
  upto_calm n (refused q) e = cc

module _ {C : Type 0} {r : Refusal} where
  int_calm : (i : IntRead) → int_field i ≡ refused r → C
  int_calm (ints.Got z n m) e = not_got e
  int_calm ints.RunsOut e = not_out e

  mask_calm : (i : IntRead) → mask_field i ≡ refused r → C
  mask_calm (ints.Got z n m) e = not_got e
  mask_calm ints.RunsOut e = not_out e

  part_calm : (i : PartRead) → part_field i ≡ refused r → C
  part_calm (parts.Got p n) e = not_got e
  part_calm parts.RunsOut e = not_out e

  field_calm : (f : Field) (w : List ℕ) (at : ℕ) → calm f ≡ true → read_field f w at ≡ refused r → C
  field_calm int w at c e = int_calm (read_int w at) e
  field_calm dt w at c e = absurd (false≢true c)
  field_calm mask w at c e = mask_calm (read_int w at) e
  field_calm str w at c e = part_calm (read_string w at) e
  field_calm uuid w at c e = part_calm (read_raw 16 w at) e
  field_calm blob w at c e = absurd (false≢true c)
  field_calm args w at c e = absurd (false≢true c)

  then_calm : {A : Type 0} (x : Reading A) (k : ℕ → Reading (List A)) → (x ≡ refused r → C) → ((n : ℕ) → k n ≡ refused r → C)
      → and_then x k ≡ refused r → C
  then_calm (got v n) k f g e = g n (push_calm v (k n) e)
  then_calm runs_out k f g e = not_out e
  then_calm (refused q) k f g e = f (cc)

  pub fields_calm : (fs : List Field) (w : List ℕ) (at : ℕ) → all_calm fs ≡ true → read_fields fs w at ≡ refused r → C
  fields_calm [] w at c e = not_got e
  fields_calm (f ∷ fs) w at c e =
      let o = and_split (calm f) (all_calm fs) c in
      then_calm (read_field f w at) (read_fields fs w) (λ x. field_calm f w at o.0 x) (λ n x. fields_calm fs w n o.1 x) e

-- ---- the data of an extension refuses nothing

abbrev calm_load : Payload → Bool
calm_load (shaped fs) = all_calm fs
calm_load all_data = true

load_calm : (k : Extension) → calm_load (payload_at k) ≡ true
unfolding payload_at extension_row all
load_calm = tested (λ k. calm_load (payload_at k)) refl

module _ {C : Type 0} {r : Refusal} (w : List ℕ) where
  payload_calm : (p : Part) (k : Extension) (y : Payload) (n : ℕ) → calm_load y ≡ true → of_payload w p k y n ≡ refused r → C
  payload_calm p k (shaped fs) n c e =
      fields_calm fs (take n w) p.at c (as_calm (Named k) (read_fields fs (take n w) p.at) (upto_calm n _ e))
  payload_calm p k all_data n c e = not_got e

  pub found_calm : (id p : Part) (f : Option Extension) (n : ℕ) → of_found w id p f n ≡ refused r → C
  found_calm id p (Some k) n e = payload_calm p k (payload_at k) n (load_calm k) e
  found_calm id p None n e = not_got e
