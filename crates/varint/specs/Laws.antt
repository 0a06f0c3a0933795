-- What holds of the integers, as statements; proofs/Theorems.antt proves each.
use Rattle.std.specs.Prelude.{ℕ, ◌+◌, ◌-◌, ◌<◌, ◌≡◌, Bool, true, false, List, [], ◌∷◌, ◌++◌, map, length, get_or, take, drop, ℤ, None}
use Rattle.std.specs.Int.{w32}
use Rattle.std.proofs.Common.{SFits}
use Rattle.varint.specs.Integers.{weight, read_int}
use Rattle.varint.specs.Written.{canonical, wrote_said, writing}
use Rattle.varint.specs.steps.Writing.{wrote_if}
use Rattle.varint.specs.declared.IntRead.{IntRead}
use Rattle.varint.specs.declared.IntRead.TheVariants.{Got, RunsOut}

-- a list of bytes
abbrev pub Bytes : List ℕ → Type 0
Bytes s = (i : ℕ) → get_or s i 0 < 256

-- the weights that the rule gives the five bytes
abbrev pub FirstWeights : Type 0
FirstWeights = map weight (0 ∷ 1 ∷ 2 ∷ 3 ∷ 4 ∷ []) ≡ 1 ∷ 64 ∷ 8192 ∷ 1048576 ∷ 134217728 ∷ []

-- written and read again: the same number, no remark, exactly the bytes written used, whatever stands before and after
abbrev pub IntWrittenReads : Type 0
IntWrittenReads =
    (z : ℤ) → SFits w32 z → (before after : List ℕ)
    → read_int (before ++ canonical z ++ after) (length before) ≡ Got z (length before + length (canonical z)) None

-- read without a remark: the bytes used are the written form
abbrev pub IntReadsWritten : Type 0
IntReadsWritten =
    (s : List ℕ) (at next : ℕ) (z : ℤ) → Bytes s → read_int s at ≡ Got z next None
    → (take (next - at) (drop at s) ≡ canonical z) × (next ≡ at + length (canonical z))

-- what every writer answers, with the numbers of the refusals; `wrote` is `wrote_if true`
abbrev pub WritersSay : Type 0
WritersSay = (ok : Bool) (xs : List ℕ) (at : ℕ) (bs : List ℕ) → wrote_said (wrote_if ok xs at bs) ≡ writing ok xs at bs

-- ---- what follows a reading; `out` tells that its bytes run out

-- bytes behind those used never change an answer other than that
abbrev pub Steady : {A : Type 0} → (A → Bool) → (List ℕ → ℕ → A) → Type 0
Steady out read = (s t : List ℕ) (at : ℕ) → out (read s at) ≡ false → read (s ++ t) at ≡ read s at

-- where the bytes of a window run out, they run out in every shorter one
abbrev pub Shorter : {A : Type 0} → (A → Bool) → (List ℕ → ℕ → A) → Type 0
Shorter out read = (s t : List ℕ) (at : ℕ) → out (read (s ++ t) at) ≡ true → out (read s at) ≡ true

abbrev pub int_out : IntRead → Bool
int_out (Got z next remark) = false
int_out RunsOut = true

abbrev pub IntSteady : Type 0
IntSteady = Steady int_out read_int × Shorter int_out read_int
