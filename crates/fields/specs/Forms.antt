-- The values of each sort of field, and which have a written form.
use Rattle.std.specs.Prelude.{ℕ, ◌<◌, ◌≡◌, Bool, true, false, ◌&&◌, List, [], ◌∷◌, length, leb, ℤ, pos, negsuc}
use Rattle.std.specs.Int.{w32}
use Rattle.std.proofs.Common.{SFits}
use Rattle.packer.specs.Texts.{no_zero, is_data}
use Rattle.fields.specs.Fields.{Field, int, dt, mask, str, uuid, blob, args, Value, on_num, on_bytes, on_strings}
use Rattle.fields.specs.Writing.{all_hold, small_dt}

abbrev pub natural32 : ℤ → Type 0
natural32 (pos n) = n < 4294967296
natural32 (negsuc n) = ⊥

-- `size` of what stands for the bytes: of the bytes themselves, or of a part of a window
abbrev pub SortOf : {A : Type 0} → (A → ℕ) → Field → Value A → Type 0
SortOf size int v = on_num ⊥ (SFits w32) v
SortOf size dt v = on_num ⊥ natural32 v
SortOf size mask v = on_num ⊥ natural32 v
SortOf size str v = on_bytes ⊥ (λ b. Unit) v
SortOf size uuid v = on_bytes ⊥ (λ b. size b ≡ 16) v
SortOf size blob v = on_bytes ⊥ (λ b. Unit) v
SortOf size args v = on_strings ⊥ (λ bs. Unit) v

abbrev pub SortsOf : {A : Type 0} → (A → ℕ) → List Field → List (Value A) → Type 0
SortsOf size [] [] = Unit
SortsOf size [] (v ∷ vs) = ⊥
SortsOf size (f ∷ fs) [] = ⊥
SortsOf size (f ∷ fs) (v ∷ vs) = SortOf size f v × SortsOf size fs vs

abbrev pub Sorted : Field → Value (List ℕ) → Type 0
Sorted = SortOf length

abbrev pub AllSorted : List Field → List (Value (List ℕ)) → Type 0
AllSorted = SortsOf length

abbrev pub writable : Field → Value (List ℕ) → Bool
writable int v = true
writable dt v = on_num false small_dt v
writable mask v = true
writable str v = on_bytes false no_zero v
writable uuid v = true
writable blob v = on_bytes false is_data v
writable args v = on_strings false (λ bs. leb (length bs) 16 && all_hold no_zero bs) v

abbrev pub all_writable : List Field → List (Value (List ℕ)) → Bool
all_writable [] vs = true
all_writable (f ∷ fs) [] = true
all_writable (f ∷ fs) (v ∷ vs) = writable f v && all_writable fs vs
