-- What holds of strings, data and raw bytes, as statements; proofs/Theorems.antt proves each.
use Rattle.std.specs.Prelude.{ℕ, ◌+◌, ◌-◌, ◌≡◌, Bool, true, false, List, ◌++◌, ◌↔◌, length, take, drop, ℤ, pos, negsuc, Option, None}
use Rattle.varint.specs.Integers.{read_int}
use Rattle.varint.specs.Written.{canonical}
use Rattle.varint.specs.Laws.{Bytes, Steady, Shorter}
use Rattle.varint.specs.declared.Remark.{Remark}
use Rattle.varint.specs.declared.IntRead.TheVariants as ints
use Rattle.packer.specs.Parts.{part, shown, read_raw, read_string, read_data}
use Rattle.packer.specs.Texts.{no_zero, string_bytes, is_data, data_bytes}
use Rattle.packer.specs.declared.Part.{Part}
use Rattle.packer.specs.declared.PartRead.{PartRead}
use Rattle.packer.specs.declared.PartRead.TheVariants.{Got, RunsOut}
use Rattle.packer.specs.declared.DataRead.{DataRead}
use Rattle.packer.specs.declared.DataRead.TheVariants as blobs

-- ---- written and read again, whatever stands before and after

-- reading at a place of a window finds b: the answer `got` has the part that begins at `start` and shows b, and `next` is the place past
-- what was used
abbrev pub Finds : {A : Type 0} → (Part → ℕ → A) → (List ℕ → ℕ → A) → List ℕ → ℕ → ℕ → List ℕ → ℕ → Type 0
Finds got read s at start b next = (read s at ≡ got (part start (length b)) next) × (shown s (part start (length b)) ≡ b)

abbrev pub StringWrittenReads : Type 0
StringWrittenReads =
    (b before after : List ℕ) → no_zero b ≡ true
    → Finds Got read_string (before ++ string_bytes b ++ after) (length before) (length before) b (length before + length (string_bytes b))

-- the part begins after the length
abbrev pub DataWrittenReads : Type 0
DataWrittenReads =
    (b before after : List ℕ) → is_data b ≡ true
    → Finds blobs.Got read_data (before ++ data_bytes b ++ after) (length before) (length before + length (canonical (pos (length b)))) b
    (length before + length (data_bytes b))

abbrev pub RawWrittenReads : Type 0
RawWrittenReads =
    (b before after : List ℕ)
    → Finds Got (read_raw (length b)) (before ++ b ++ after) (length before) (length before) b (length before + length b)

-- ---- read and written again: the bytes used are the written form of what the part shows, which has one

-- the bytes from `at` to `next`
abbrev pub Used : List ℕ → ℕ → ℕ → List ℕ → Type 0
Used s at next w = (take (next - at) (drop at s) ≡ w) × (next ≡ at + length w)

abbrev pub StringReadsWritten : Type 0
StringReadsWritten =
    (s : List ℕ) (at next : ℕ) (p : Part) → read_string s at ≡ Got p next
    → Used s at next (string_bytes (shown s p)) × (no_zero (shown s p) ≡ true)

-- of data whose length has no remark
abbrev pub DataReadsWritten : Type 0
DataReadsWritten =
    (s : List ℕ) (at next : ℕ) (p : Part) (z : ℤ) (m : ℕ) → Bytes s → read_int s at ≡ ints.Got z m None → read_data s at ≡ blobs.Got p next
    → Used s at next (data_bytes (shown s p)) × (is_data (shown s p) ≡ true)

abbrev pub RawReadsWritten : Type 0
RawReadsWritten =
    (n : ℕ) (s : List ℕ) (at next : ℕ) (p : Part) → read_raw n s at ≡ Got p next
    → Used s at next (shown s p) × (length (shown s p) ≡ n)

-- ---- data has a negative length exactly if the length has been read, whole, and is below 0; `negsuc n` is -(n + 1)

pub record LengthBelow0 (s : List ℕ) (at : ℕ) : Type 0 where
  pub n : ℕ
  pub next : ℕ
  pub remark : Option Remark
  pub read : read_int s at ≡ ints.Got (negsuc n) next remark

abbrev pub DataNegative : Type 0
DataNegative = (s : List ℕ) (at : ℕ) → (read_data s at ≡ blobs.NegativeLength) ↔ LengthBelow0 s at

-- ---- what follows a reading

abbrev pub part_out : PartRead → Bool
part_out (Got p next) = false
part_out RunsOut = true

-- a negative length is no running out
abbrev pub data_out : DataRead → Bool
data_out (blobs.Got p next) = false
data_out blobs.RunsOut = true
data_out blobs.NegativeLength = false

abbrev pub StringSteady : Type 0
StringSteady = Steady part_out read_string × Shorter part_out read_string

abbrev pub DataSteady : Type 0
DataSteady = Steady data_out read_data × Shorter data_out read_data

abbrev pub RawSteady : Type 0
RawSteady = (n : ℕ) → Steady part_out (read_raw n) × Shorter part_out (read_raw n)
