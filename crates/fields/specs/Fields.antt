-- A record's fields, one after the other, as they are read. docs/FORMAT.md, "Records".
use Rattle.std.specs.Prelude.{ℕ, zero, suc, cond, List, [], ◌∷◌, ◌++◌, map, length, ltb, ℤ, pos, negsuc}
use Rattle.std.specs.Int.{w32}
use Rattle.std.proofs.Common.{of_z}
use Rattle.refusal.specs.declared.Refusal.{Refusal}
use Rattle.refusal.specs.declared.Refusal.TheVariants.{NegativeDt, NegativeNumArgs, NumArgsTooLarge, NegativeLength}
use Rattle.varint.specs.Integers.{read_int}
use Rattle.varint.specs.declared.IntRead.{IntRead}
use Rattle.varint.specs.declared.IntRead.TheVariants as ints
use Rattle.packer.specs.Parts.{shown, read_raw, read_string, read_data}
use Rattle.packer.specs.declared.Part.{Part}
use Rattle.packer.specs.declared.PartRead.{PartRead}
use Rattle.packer.specs.declared.PartRead.TheVariants as parts
use Rattle.packer.specs.declared.DataRead.{DataRead}
use Rattle.packer.specs.declared.DataRead.TheVariants as blobs

-- the sorts of field: a number; dt, which isn't negative; a flag mask, whose 32 bits are taken unsigned; a string; 16 bytes; data;
-- a count and that many strings
pub data Field : Type 0 where
  int : Field
  dt : Field
  mask : Field
  str : Field
  uuid : Field
  blob : Field
  args : Field

-- a field's value: a number, a part of the window, several parts (in a meaning: the parts' bytes)
pub data Value (A : Type 0) : Type 0 where
  num : ℤ → Value A
  bytes : A → Value A
  strings : List A → Value A

-- an answer for each sort of value, in this order
abbrev pub on_value {ℓ} : {A : Type 0} {B : Type ℓ} → (ℤ → B) → (A → B) → (List A → B) → Value A → B
on_value f g h (num z) = f z
on_value f g h (bytes b) = g b
on_value f g h (strings bs) = h bs

-- what a number gives, or bytes, or strings; x for a value of another sort
abbrev pub on_num {ℓ} : {A : Type 0} {B : Type ℓ} → B → (ℤ → B) → Value A → B
on_num x f v = on_value f (λ b. x) (λ bs. x) v

abbrev pub on_bytes {ℓ} : {A : Type 0} {B : Type ℓ} → B → (A → B) → Value A → B
on_bytes x f v = on_value (λ z. x) f (λ bs. x) v

abbrev pub on_strings {ℓ} : {A : Type 0} {B : Type ℓ} → B → (List A → B) → Value A → B
on_strings x f v = on_value (λ z. x) (λ b. x) f v

-- what reading says: what was got and the place past it; that the bytes run out; a refusal
pub data Reading (A : Type 0) : Type 0 where
  got : A → ℕ → Reading A
  runs_out : Reading A
  refused : Refusal → Reading A

-- reading goes on, from the place past what was got, by what it is
abbrev pub with_got : {A : Type 0} {B : Type 0} → Reading A → (A → ℕ → Reading B) → Reading B
with_got (got a next) k = k a next
with_got runs_out k = runs_out
with_got (refused r) k = refused r

abbrev pub with_int : {B : Type 0} → IntRead → (ℤ → ℕ → Reading B) → Reading B
with_int (ints.Got z next remark) k = k z next
with_int ints.RunsOut k = runs_out

abbrev pub with_part : {B : Type 0} → PartRead → (Part → ℕ → Reading B) → Reading B
with_part (parts.Got p next) k = k p next
with_part parts.RunsOut k = runs_out

-- data of a negative length is refused 21
abbrev pub with_data : {B : Type 0} → DataRead → (Part → ℕ → Reading B) → Reading B
with_data (blobs.Got p next) k = k p next
with_data blobs.RunsOut k = runs_out
with_data blobs.NegativeLength k = refused NegativeLength

-- a number that isn't negative, or else a refusal
abbrev pub with_natural : {B : Type 0} → Refusal → ℤ → (ℕ → Reading B) → Reading B
with_natural r (pos n) k = k n
with_natural r (negsuc n) k = refused r

-- ---- a field

-- n more strings after those that were had; a 17th is refused once it has been read
unfoldable pub args_from : ℕ → List ℕ → List Part → ℕ → Reading (List Part)
args_from zero s had at = got had at
args_from (suc n) s had at =
    with_part (read_string s at) (λ p next. cond (ltb (length had) 16) (args_from n s (had ++ p ∷ []) next) (refused NumArgsTooLarge))

abbrev pub read_field : Field → List ℕ → ℕ → Reading (Value Part)
read_field int s at = with_int (read_int s at) (λ z. got (num z))
read_field dt s at = with_int (read_int s at) (λ z next. with_natural NegativeDt z (λ n. got (num (pos n)) next))
read_field mask s at = with_int (read_int s at) (λ z. got (num (pos (of_z w32 z))))
read_field str s at = with_part (read_string s at) (λ p. got (bytes p))
read_field uuid s at = with_part (read_raw 16 s at) (λ p. got (bytes p))
read_field blob s at = with_data (read_data s at) (λ p. got (bytes p))
read_field args s at =
    with_int (read_int s at) (λ z next. with_natural NegativeNumArgs z (λ n. with_got (args_from n s [] next) (λ ps. got (strings ps))))

-- ---- fields, one after the other

abbrev pub read_fields : List Field → List ℕ → ℕ → Reading (List (Value Part))
read_fields [] s at = got [] at
read_fields (f ∷ fs) s at = with_got (read_field f s at) (λ v next. with_got (read_fields fs s next) (λ vs. got (v ∷ vs)))

-- ---- the meaning of what was read from a window: the bytes of the parts

abbrev pub mean : List ℕ → Value Part → Value (List ℕ)
mean s v = on_value num (λ p. bytes (shown s p)) (λ ps. strings (map (shown s) ps)) v
