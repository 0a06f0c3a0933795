-- What a reading function answered, as the definition reads it there and in the form that the code keeps. Assumes nothing.
use Rattle.std.specs.Prelude.{Option}
use Prim.Native.Nat.{ℕ}
use mathlib.Core.Path.{◌≡◌, refl, sym, ◌∙◌, ap}
use mathlib.Core.Bool.{true, false, false≢true}
use mathlib.Core.List.{List, [], ◌∷◌}
use lib.ListN.{drop}
use lib.IntN.{ℤ}
use mir.Syntax.{w32}
use mir.Val.{to_z, of_z}
use mir.Facts.{to_z-of_z}
use Rattle.varint.specs.Integers.{read_int}
use Rattle.varint.specs.declared.Remark.{Remark}
use Rattle.varint.specs.declared.IntRead.{IntRead}
use Rattle.varint.specs.declared.IntRead.TheVariants as ints
use Rattle.varint.proofs.Prefix.{int_fits}
use Rattle.packer.specs.Parts.{read_raw}
use Rattle.packer.specs.declared.Part.{Part}
use Rattle.packer.specs.declared.PartRead.{PartRead}
use Rattle.packer.specs.declared.PartRead.TheVariants as parts
use Rattle.packer.specs.declared.DataRead.{DataRead}
use Rattle.packer.specs.declared.DataRead.TheVariants as blobs
use Rattle.packer.proofs.Parts.{raw_got}
use Rattle.fields.specs.Fields.{int, Value, num, bytes, Reading, runs_out, read_fields}
use Rattle.fields.specs.steps.Sorts.{int_field, part_field, data_field, push, and_then}
use Rattle.shapes.specs.steps.Shapes.{fields_in, id_part, Shows, is_nothing, on_int, on_part, data_read}
use Rattle.shapes.specs.declared.Shape.{Shape}
use Rattle.shapes.specs.declared.Shape.TheVariants.{Nothing, Int, IntInt, IntStr, IntIntStr, IntUuidStr, IntUuidIntStr, IntData}
use Rattle.shapes.specs.declared.FieldsRead.{FieldsRead}

module _ (s : List ℕ) (at : ℕ) where
  -- a number: the code keeps its bits
  pub int_kept : {a : IntRead} {z : ℤ} {next : ℕ} {remark : Option Remark} → a ≡ read_int s at → a ≡ ints.Got z next remark
      → read_int s at ≡ ints.Got (to_z w32 (of_z w32 z)) next remark
  int_kept {z = z} {next = next} {remark = remark} e g =
      let reads = sym e ∙ g in
      rw (to_z-of_z {w = w32} {z = z} (int_fits s at z next remark reads)) reads

  -- an identifier: the code keeps its place
  pub id_kept : {a : PartRead} {p : Part} {next : ℕ} → a ≡ read_raw 16 s at → a ≡ parts.Got p next
      → read_raw 16 s at ≡ parts.Got (id_part at) next
  id_kept {p = p} {next = next} e g =
      let reads = sym e ∙ g in
      reads ∙ ap (λ q. parts.Got q next) (raw_got 16 s at next p reads).1.0

-- one field more, behind what was read before it: h puts that in front
module _ (shape : Shape) (h : Reading (List (Value Part)) → Reading (List (Value Part))) (out : h runs_out ≡ runs_out) where
  pub by_int : (x : IntRead) (k : ℤ → ℕ → FieldsRead) (j : ℕ → Reading (List (Value Part)))
      → ((z : ℤ) (n : ℕ) → Shows shape (k z n) (h (push (num z) (j n)))) → Shows shape (on_int x k) (h (and_then (int_field x) j))
  by_int (ints.Got z n m) k j f = f z n
  by_int ints.RunsOut k j f = record { values = sym out; blank = refl }

  pub by_part : (x : PartRead) (k : Part → ℕ → FieldsRead) (j : ℕ → Reading (List (Value Part)))
      → ((p : Part) (n : ℕ) → Shows shape (k p n) (h (push (bytes p) (j n)))) → Shows shape (on_part x k) (h (and_then (part_field x) j))
  by_part (parts.Got p n) k j f = f p n
  by_part parts.RunsOut k j f = record { values = sym out; blank = refl }

-- a number, and data behind it
pub data_shows : (a : ℤ) (x : DataRead) (s : List ℕ) → Shows IntData (data_read a x) (push (num a) (and_then (data_field x) (read_fields [] s)))
data_shows a (blobs.Got t next) s = record { values = refl; blank = refl }
data_shows a blobs.RunsOut s = record { values = refl; blank = refl }
data_shows a blobs.NegativeLength s = record { values = refl; blank = refl }

-- a shape other than Nothing begins with a number
pub begins : (shape : Shape) → is_nothing shape ≡ false → fields_in shape ≡ int ∷ drop 1 (fields_in shape)
begins Nothing e = absurd (false≢true (sym e))
begins Int e = refl
begins IntInt e = refl
begins IntStr e = refl
begins IntIntStr e = refl
begins IntUuidStr e = refl
begins IntUuidIntStr e = refl
begins IntData e = refl

pub nothing : (shape : Shape) → is_nothing shape ≡ true → shape ≡ Nothing
nothing Nothing e = refl
nothing Int e = absurd (false≢true e)
nothing IntInt e = absurd (false≢true e)
nothing IntStr e = absurd (false≢true e)
nothing IntIntStr e = absurd (false≢true e)
nothing IntUuidStr e = absurd (false≢true e)
nothing IntUuidIntStr e = absurd (false≢true e)
nothing IntData e = absurd (false≢true e)

-- the first number, and what follows it
pub first_then : (shape : Shape) → is_nothing shape ≡ false → (s : List ℕ) (at : ℕ) {z : ℤ} {n : ℕ} {m : Option Remark} → read_int s at ≡ ints.Got z n m
    → push (num z) (read_fields (drop 1 (fields_in shape)) s n) ≡ read_fields (fields_in shape) s at
first_then shape e s at g = sym (ap (λ fs. read_fields fs s at) (begins shape e) ∙ rw g)
