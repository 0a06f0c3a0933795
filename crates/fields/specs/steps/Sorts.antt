-- What each sort of field makes of what was read, by name.
use Rattle.std.specs.Prelude.{ℕ, Bool, true, cond, List, [], ◌∷◌, ◌++◌, length, ltb, ℤ, pos}
use Rattle.std.specs.Int.{w32}
use Rattle.std.proofs.Common.{of_z}
use Rattle.refusal.specs.declared.Refusal.TheVariants.{NegativeDt, NegativeNumArgs, NumArgsTooLarge}
use Rattle.varint.specs.declared.IntRead.{IntRead}
use Rattle.packer.specs.Parts.{part}
use Rattle.packer.specs.Texts.{no_zero}
use Rattle.packer.specs.declared.Part.{Part}
use Rattle.packer.specs.declared.PartRead.{PartRead}
use Rattle.packer.specs.declared.DataRead.{DataRead}
use Rattle.fields.specs.Fields.{
  Field,
  int,
  Value,
  num,
  bytes,
  strings,
  on_value,
  Reading,
  got,
  refused,
  with_got,
  with_int,
  with_part,
  with_data,
  with_natural,
  args_from,
}
use Rattle.fields.specs.Views.{ten_fields}
use Rattle.fields.specs.Writing.{all_hold, inside}

-- ---- a field

abbrev pub int_field : IntRead → Reading (Value Part)
int_field i = with_int i (λ z. got (num z))

abbrev pub dt_from : ℤ → ℕ → Reading (Value Part)
dt_from z next = with_natural NegativeDt z (λ n. got (num (pos n)) next)

abbrev pub dt_field : IntRead → Reading (Value Part)
dt_field i = with_int i dt_from

abbrev pub mask_field : IntRead → Reading (Value Part)
mask_field i = with_int i (λ z. got (num (pos (of_z w32 z))))

abbrev pub part_field : PartRead → Reading (Value Part)
part_field x = with_part x (λ p. got (bytes p))

abbrev pub data_field : DataRead → Reading (Value Part)
data_field x = with_data x (λ p. got (bytes p))

abbrev pub one_arg : PartRead → List Part → (List Part → ℕ → Reading (List Part)) → Reading (List Part)
one_arg x had k = with_part x (λ p next. cond (ltb (length had) 16) (k (had ++ p ∷ []) next) (refused NumArgsTooLarge))

abbrev pub as_strings : Reading (List Part) → Reading (Value Part)
as_strings x = with_got x (λ ps. got (strings ps))

abbrev pub args_of : List ℕ → ℤ → ℕ → Reading (Value Part)
args_of s z next = with_natural NegativeNumArgs z (λ n. as_strings (args_from n s [] next))

abbrev pub args_field : List ℕ → IntRead → Reading (Value Part)
args_field s i = with_int i (args_of s)

-- ---- fields, one after the other

-- a value before those that are read after it
abbrev pub push : {A : Type 0} → A → Reading (List A) → Reading (List A)
push v x = with_got x (λ vs. got (v ∷ vs))

abbrev pub and_then : {A : Type 0} → Reading A → (ℕ → Reading (List A)) → Reading (List A)
and_then x k = with_got x (λ v next. push v (k next))

-- ---- tests

abbrev pub all_no_zero : List (List ℕ) → Bool
all_no_zero bs = all_hold no_zero bs

abbrev pub all_inside : List ℕ → List Part → Bool
all_inside s ps = all_hold (inside s) ps

abbrev pub value_inside : List ℕ → Value Part → Bool
value_inside s v = on_value (λ z. true) (inside s) (all_hold (inside s)) v

-- ---- what stands beside a record

abbrev pub no_part : Part
no_part = part 0 0

-- an input: the client, then ten numbers
abbrev pub input_fields : List Field
input_fields = int ∷ ten_fields
