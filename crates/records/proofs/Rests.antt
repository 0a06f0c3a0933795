-- The rest of a record, by how the code goes on after its kind. Assumes nothing.
use Rattle.std.specs.Prelude.{Option}
use Prim.Native.Nat.{ℕ}
use mathlib.Core.Path.{◌≡◌, refl, sym, ◌∙◌, ap}
use mathlib.Core.Bool.{true, false}
use mathlib.Core.List.{List, [], ◌∷◌}
use native.Mathlib.Omega.{arith}
use lib.IntN.{ℤ, pos, negsuc}
use lib.Signed.{mag, lt_z}
use mir.Syntax.{w32}
use mir.Val.{SFits, to_z, of_z}
use Rattle.extensions.specs.declared.Extension.{Extension}
use Rattle.num.proofs.Signs.{below_zero}
use Rattle.refusal.specs.declared.Refusal.TheVariants.{NegativeDt, NegativeLength}
use Rattle.varint.specs.Integers.{read_int}
use Rattle.varint.specs.declared.Remark.{Remark}
use Rattle.varint.specs.declared.IntRead.TheVariants as ints
use Rattle.packer.specs.declared.Part.{Part}
use Rattle.fields.specs.Fields.{Field, num, Reading, got, runs_out, refused, read_fields}
use Rattle.shapes.specs.steps.Shapes.{fields_in, values_in, viewed}
use Rattle.shapes.specs.declared.Shape.{Shape}
use Rattle.shapes.specs.declared.FieldsRead.{FieldsRead}
use Rattle.shapes.specs.declared.FieldsRead.TheVariants as read
use Rattle.item.specs.Records.{Content, content, as_content, read_ex, read_rest}
use Rattle.item.specs.Own.{own_fields}
use Rattle.item.specs.steps.Taken.{from_fields}
use Rattle.kinds.specs.declared.Kind.{Kind}
use Rattle.kinds.specs.declared.Kind.TheVariants as kinds
use Rattle.item.specs.declared.Tag.TheVariants.{Plain}
use Rattle.records.specs.steps.Views.{rest_code}
use Rattle.kinds.specs.steps.Kinds.{input_kind}
use Rattle.records.specs.declared.Rest.{Rest}
use Rattle.records.specs.declared.Rest.TheVariants as rests

-- ---- each way to go on reads the rest of the kinds that have it

abbrev pub by_rest : Kind → Rest → List ℕ → ℕ → Reading (Content Part)
by_rest kind (rests.Shaped shape) s at = as_content (Plain kind) (read_fields (fields_in shape) s at)
by_rest kind rests.Dt s at = read_rest kinds.TickSkip s at
by_rest kind (rests.Input new) s at = read_rest (input_kind new) s at
by_rest kind rests.Command s at = read_rest kinds.ConsoleCommand s at
by_rest kind rests.Extension s at = read_ex s at

rest_is : (kind : Kind) (s : List ℕ) (at : ℕ) → by_rest kind (rest_code kind) s at ≡ read_rest kind s at
unfolding read_rest
rest_is (kinds.PlayerDiff c) s at = refl
rest_is kinds.Finish s at = refl
rest_is kinds.TickSkip s at = refl
rest_is (kinds.PlayerNew c) s at = refl
rest_is (kinds.PlayerOld c) s at = refl
rest_is kinds.InputDiff s at = refl
rest_is kinds.InputNew s at = refl
rest_is kinds.Message s at = refl
rest_is kinds.Join s at = refl
rest_is kinds.Drop s at = refl
rest_is kinds.ConsoleCommand s at = refl
rest_is kinds.Ex s at = refl

pub rest_told : (kind : Kind) (s : List ℕ) (at : ℕ) (r : Rest) → rest_code kind ≡ r → by_rest kind r s at ≡ read_rest kind s at
rest_told kind s at r e = ap (λ (x : Rest). by_rest kind x s at) (sym e) ∙ rest_is kind s at

-- ---- fields of a shape

-- the fields that stand in the record are the shape's
abbrev own_by : Kind → Rest → List Field
own_by kind (rests.Shaped shape) = fields_in shape
own_by kind rests.Dt = own_fields (Plain kind)
own_by kind (rests.Input new) = own_fields (Plain kind)
own_by kind rests.Command = own_fields (Plain kind)
own_by kind rests.Extension = own_fields (Plain kind)

own_is : (kind : Kind) → own_fields (Plain kind) ≡ own_by kind (rest_code kind)
own_is (kinds.PlayerDiff c) = refl
own_is kinds.Finish = refl
own_is kinds.TickSkip = refl
own_is (kinds.PlayerNew c) = refl
own_is (kinds.PlayerOld c) = refl
own_is kinds.InputDiff = refl
own_is kinds.InputNew = refl
own_is kinds.Message = refl
own_is kinds.Join = refl
own_is kinds.Drop = refl
own_is kinds.ConsoleCommand = refl
own_is kinds.Ex = refl

-- the answer to a reading of the fields
abbrev pub of_shape : Kind → FieldsRead → Reading (Content Part)
of_shape kind (read.Got f next) = got (from_fields (Plain kind) f) next
of_shape kind read.RunsOut = runs_out
of_shape kind read.NegativeLength = refused NegativeLength

as_viewed : (kind : Kind) (shape : Shape) (x : FieldsRead) → own_fields (Plain kind) ≡ fields_in shape
    → of_shape kind x ≡ as_content (Plain kind) (viewed shape x)
as_viewed kind shape (read.Got f next) e = ap (λ (fs : List Field). got (content (Plain kind) (values_in fs f)) next) e
as_viewed kind shape read.RunsOut e = refl
as_viewed kind shape read.NegativeLength e = refl

pub shaped_read : (kind : Kind) (shape : Shape) (s : List ℕ) (at : ℕ) (x : FieldsRead) → rest_code kind ≡ rests.Shaped shape
    → viewed shape x ≡ read_fields (fields_in shape) s at → of_shape kind x ≡ read_rest kind s at
shaped_read kind shape s at x e r =
    as_viewed kind shape x (own_is kind ∙ ap (own_by kind) e) ∙ ap (as_content (Plain kind)) r ∙ rest_told kind s at (rests.Shaped shape) e

pub not_shaped : {C : Type 0} → false ≡ true → C
not_shaped e = let z : ◌≡◌ {A = ℕ} 0 1 = cc in absurd (omega arith)

-- ---- dt

module _ (s : List ℕ) (at : ℕ) where
  pub dt_out : read_int s at ≡ ints.RunsOut → runs_out ≡ read_rest kinds.TickSkip s at
  unfolding read_rest
  dt_out e = rw e

  dt_negative : (n next : ℕ) (r : Option Remark) → read_int s at ≡ ints.Got (negsuc n) next r → refused NegativeDt ≡ read_rest kinds.TickSkip s at
  unfolding read_rest
  dt_negative n next r e = rw e

  -- by the code's test
  pub dt_below : (z : ℤ) (next : ℕ) (r : Option Remark) → SFits w32 z → lt_z (to_z w32 (of_z w32 z)) (pos 0) ≡ true → read_int s at ≡ ints.Got z next r
      → refused NegativeDt ≡ read_rest kinds.TickSkip s at
  dt_below z next r h t e = dt_negative (mag z) next r (e ∙ ap (λ (y : ℤ). ints.Got y next r) (below_zero z h t))

  pub dt_got : (n next : ℕ) (r : Option Remark) → read_int s at ≡ ints.Got (pos n) next r
      → got (content (Plain kinds.TickSkip) (num (pos n) ∷ [])) next ≡ read_rest kinds.TickSkip s at
  unfolding read_rest
  dt_got n next r e = rw e
