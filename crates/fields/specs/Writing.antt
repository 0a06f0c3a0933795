-- The written form of fields, and which values have one. docs/FORMAT.md, "Records" and "The writer".
use Rattle.std.specs.Prelude.{ℕ, ◌+◌, Bool, true, false, ◌&&◌, List, [], ◌∷◌, ◌++◌, length, leb, ℤ, pos, negsuc}
use Rattle.std.specs.Int.{w32}
use Rattle.std.proofs.Common.{to_z, of_z}
use Rattle.varint.specs.Written.{canonical}
use Rattle.packer.specs.Texts.{string_bytes, data_bytes}
use Rattle.packer.specs.declared.Part.{Part}
use Rattle.fields.specs.Fields.{Field, int, dt, mask, str, uuid, blob, args, Value, on_value, on_num, on_bytes, on_strings}

-- ---- tests

-- of all in a list
abbrev pub all_hold : {A : Type 0} → (A → Bool) → List A → Bool
all_hold test [] = true
all_hold test (x ∷ xs) = test x && all_hold test xs

abbrev pub small_dt : ℤ → Bool
small_dt (pos n) = leb n 2147483647
small_dt (negsuc n) = false

-- ---- the written form

unfoldable pub strings_bytes : List (List ℕ) → List ℕ
strings_bytes [] = []
strings_bytes (b ∷ bs) = string_bytes b ++ strings_bytes bs

-- a mask's bits are written as the i32 with those bits
abbrev pub write_field : Field → Value (List ℕ) → List ℕ
write_field int v = on_num [] canonical v
write_field dt v = on_num [] canonical v
write_field mask v = on_num [] (λ z. canonical (to_z w32 (of_z w32 z))) v
write_field str v = on_bytes [] string_bytes v
write_field uuid v = on_bytes [] (λ b. b) v
write_field blob v = on_bytes [] data_bytes v
write_field args v = on_strings [] (λ bs. canonical (pos (length bs)) ++ strings_bytes bs) v

abbrev pub write_fields : List Field → List (Value (List ℕ)) → List ℕ
write_fields [] vs = []
write_fields (f ∷ fs) [] = []
write_fields (f ∷ fs) (v ∷ vs) = write_field f v ++ write_fields fs vs

-- ---- parts that lie inside a window

abbrev pub inside : List ℕ → Part → Bool
inside s p = leb (p.at + p.len) (length s)

abbrev pub parts_inside : List ℕ → List (Value Part) → Bool
parts_inside s vs = all_hold (on_value (λ z. true) (inside s) (all_hold (inside s))) vs
