-- Bytes behind the fields that were read never matter: an answer other than that the bytes run out stays. Assumes nothing.
use Prim.Native.Nat.{ℕ, zero, suc}
use mathlib.Core.Path.{◌≡◌, refl, sym, ◌∙◌, ap}
use mathlib.Core.Bool.{false}
use mathlib.Core.List.{List, [], ◌∷◌, ◌++◌}
use lib.ListN.{length}
use lib.Dec.{ltb}
use lib.IntN.{pos, negsuc}
use Rattle.num.proofs.Cases.{by_bool}
use Rattle.varint.specs.Integers.{read_int}
use Rattle.varint.specs.Laws.{Steady, int_out}
use Rattle.varint.specs.declared.IntRead.{IntRead}
use Rattle.varint.specs.declared.IntRead.TheVariants as ints
use Rattle.varint.proofs.Theorems.{int_steady}
use Rattle.packer.specs.Parts.{read_raw, read_string, read_data}
use Rattle.packer.specs.Laws.{part_out, data_out}
use Rattle.packer.specs.declared.Part.{Part}
use Rattle.packer.specs.declared.PartRead.{PartRead}
use Rattle.packer.specs.declared.PartRead.TheVariants as parts
use Rattle.packer.specs.declared.DataRead.{DataRead}
use Rattle.packer.specs.declared.DataRead.TheVariants as blobs
use Rattle.packer.proofs.Theorems.{string_steady, data_steady, raw_steady}
use Rattle.fields.specs.Fields.{
  Field,
  int,
  dt,
  mask,
  str,
  uuid,
  blob,
  args,
  Value,
  Reading,
  got,
  runs_out,
  refused,
  args_from,
  read_field,
  read_fields,
}
use Rattle.fields.specs.steps.Sorts.{int_field, dt_field, mask_field, part_field, data_field, one_arg, as_strings, args_field, push, and_then}
use Rattle.fields.specs.Laws.{is_out}

-- ---- what an answer tells of the reading that it goes on from

module _ {A : Type 0} where
  pub int_had : (k : IntRead → Reading A) → k ints.RunsOut ≡ runs_out → (i : IntRead) → is_out (k i) ≡ false → int_out i ≡ false
  int_had k out (ints.Got z next r) e = refl
  int_had k out ints.RunsOut e = sym (ap is_out out) ∙ e

  part_had : (k : PartRead → Reading A) → k parts.RunsOut ≡ runs_out → (x : PartRead) → is_out (k x) ≡ false → part_out x ≡ false
  part_had k out (parts.Got p next) e = refl
  part_had k out parts.RunsOut e = sym (ap is_out out) ∙ e

  data_had : (k : DataRead → Reading A) → k blobs.RunsOut ≡ runs_out → (x : DataRead) → is_out (k x) ≡ false → data_out x ≡ false
  data_had k out (blobs.Got p next) e = refl
  data_had k out blobs.RunsOut e = sym (ap is_out out) ∙ e
  data_had k out blobs.NegativeLength e = refl

  push_had : (v : A) (y : Reading (List A)) → is_out (push v y) ≡ is_out y
  push_had v (got vs next) = refl
  push_had v runs_out = refl
  push_had v (refused r) = refl

  then_had : (x : Reading A) (k : ℕ → Reading (List A)) → is_out (and_then x k) ≡ false → is_out x ≡ false
  then_had (got v next) k e = refl
  then_had runs_out k e = e
  then_had (refused r) k e = refl

  -- two ways to go on that agree
  then_same : (x : Reading A) (j k : ℕ → Reading (List A)) → ((n : ℕ) → is_out (k n) ≡ false → j n ≡ k n)
      → is_out (and_then x k) ≡ false → and_then x j ≡ and_then x k
  then_same (got v next) j k g e = ap (push v) (g next (sym (push_had v (k next)) ∙ e))
  then_same runs_out j k g e = refl
  then_same (refused r) j k g e = refl

strings_had : (x : Reading (List Part)) → is_out (as_strings x) ≡ is_out x
strings_had (got ps next) = refl
strings_had runs_out = refl
strings_had (refused r) = refl

-- ---- arguments

one_same : (x : PartRead) (had : List Part) (j k : List Part → ℕ → Reading (List Part))
    → ((ps : List Part) (n : ℕ) → is_out (k ps n) ≡ false → j ps n ≡ k ps n) → is_out (one_arg x had k) ≡ false → one_arg x had j ≡ one_arg x had k
one_same (parts.Got p next) had j k g e =
    by_bool (ltb (length had) 16) (λ t. rw t (g (had ++ p ∷ []) next (rw t at e))) (λ t. rw t)
one_same parts.RunsOut had j k g e = refl

args_steady : (n : ℕ) (s t : List ℕ) (had : List Part) (at : ℕ) → is_out (args_from n s had at) ≡ false → args_from n (s ++ t) had at ≡ args_from n s had at
unfolding args_from
args_steady zero s t had at e = refl
args_steady (suc n) s t had at e =
    rw (string_steady.0 s t at (part_had (λ x. one_arg x had (args_from n s)) refl (read_string s at) e))
    (one_same (read_string s at) had (args_from n (s ++ t)) (args_from n s) (args_steady n s t) e)

after_steady : (s t : List ℕ) (i : IntRead) → is_out (args_field s i) ≡ false → args_field (s ++ t) i ≡ args_field s i
after_steady s t (ints.Got (pos n) next r) e =
    ap as_strings (args_steady n s t [] next (sym (strings_had (args_from n s [] next)) ∙ e))
after_steady s t (ints.Got (negsuc n) next r) e = refl
after_steady s t ints.RunsOut e = refl

-- ---- fields

by_int : (k : IntRead → Reading (Value Part)) → k ints.RunsOut ≡ runs_out → Steady is_out (λ s at. k (read_int s at))
by_int k out s t at e = ap k (int_steady.0 s t at (int_had k out (read_int s at) e))

by_part : (read : List ℕ → ℕ → PartRead) → Steady part_out read → Steady is_out (λ s at. part_field (read s at))
by_part read steady s t at e = ap part_field (steady s t at (part_had part_field refl (read s at) e))

pub field_steady : (f : Field) → Steady is_out (read_field f)
field_steady int s t at e = by_int int_field refl s t at e
field_steady dt s t at e = by_int dt_field refl s t at e
field_steady mask s t at e = by_int mask_field refl s t at e
field_steady str s t at e = by_part read_string string_steady.0 s t at e
field_steady uuid s t at e = by_part (read_raw 16) (raw_steady 16).0 s t at e
field_steady blob s t at e = ap data_field (data_steady.0 s t at (data_had data_field refl (read_data s at) e))
field_steady args s t at e =
    rw (int_steady.0 s t at (int_had (args_field s) refl (read_int s at) e)) (after_steady s t (read_int s at) e)

pub all_steady : (fs : List Field) → Steady is_out (read_fields fs)
all_steady [] s t at e = refl
all_steady (f ∷ fs) s t at e =
    rw (field_steady f s t at (then_had (read_field f s at) (read_fields fs s) e))
    (then_same (read_field f s at) (read_fields fs (s ++ t)) (read_fields fs s) (all_steady fs s t) e)
