-- The statements of specs/Laws.antt. Assumes nothing.
use Prim.Native.Nat.{ℕ, ◌≤◌}
use mathlib.Core.Path.{◌≡◌, refl}
use mathlib.Core.Bool.{false}
use mathlib.Core.List.{List, ◌++◌, append_assoc}
use native.Mathlib.Omega.{arith}
use lib.ListN.{length, drop, length-append}
use lib.Seq.{drop-append_seam}
use Rattle.varint.specs.Laws.{Steady, Shorter}
use Rattle.varint.proofs.Theorems.{shorter}
use Rattle.packer.specs.Parts.{read_raw, read_string, read_data}
use Rattle.packer.specs.Texts.{string_bytes, data_bytes}
use Rattle.packer.specs.Laws.{
  StringWrittenReads,
  DataWrittenReads,
  RawWrittenReads,
  StringReadsWritten,
  DataReadsWritten,
  RawReadsWritten,
  DataNegative,
  part_out,
  data_out,
  StringSteady,
  DataSteady,
  RawSteady,
}
use Rattle.packer.specs.declared.Part.{Part}
use Rattle.packer.specs.declared.PartRead.{PartRead}
use Rattle.packer.specs.declared.PartRead.TheVariants.{Got, RunsOut}
use Rattle.packer.specs.declared.DataRead.{DataRead}
use Rattle.packer.specs.declared.DataRead.TheVariants as blobs
use Rattle.packer.proofs.Places.{shown_at, raw_at, string_at, string_shown, data_at, data_shown}
use Rattle.packer.proofs.Parts.{used, raw_taken, raw_whole, string_taken, string_whole, data_taken, data_whole, data_below, below_data, below_steady}

-- w stands between two lists
module _ (before w after : List ℕ) where
  stands : drop (length before) (before ++ w ++ after) ≡ w ++ after
  stands = rw (append_assoc before w after) (drop-append_seam before (w ++ after))

  starts : length before ≤ length (before ++ w ++ after)
  starts = rw (append_assoc before w after) (omega (arith, length-append before (w ++ after)))

pub string_written_reads : StringWrittenReads
string_written_reads b before after z =
    let w = string_bytes b in
    let s = before ++ w ++ after in
    let e = stands before w after in
    (string_at s b after (length before) z e, string_shown s b after (length before) z e (starts before w after))

pub data_written_reads : DataWrittenReads
data_written_reads b before after z =
    let w = data_bytes b in
    let s = before ++ w ++ after in
    let e = stands before w after in
    let h = starts before w after in
    (data_at s b after (length before) z e h, data_shown s b after (length before) z e h)

pub raw_written_reads : RawWrittenReads
raw_written_reads b before after =
    let s = before ++ b ++ after in
    let e = stands before b after in
    let h = starts before b after in
    (raw_at s b after (length before) e h, shown_at s b after (length before) e h)

pub string_reads_written : StringReadsWritten
string_reads_written s at next p e = let g = string_whole s at next p e in (used s at next _ g.0, g.1)

pub data_reads_written : DataReadsWritten
data_reads_written s at next p z m b r e = let g = data_whole s at next p e z m b r in (used s at next _ g.0, g.1)

pub raw_reads_written : RawReadsWritten
raw_reads_written n s at next p e = let g = raw_whole n s at next p e in (used s at next _ g.0, g.1)

-- a reading of parts whose answers stay
module _ (read : List ℕ → ℕ → PartRead)
    (stays : (s : List ℕ) (at next : ℕ) (p : Part) → read s at ≡ Got p next → (t : List ℕ) → read (s ++ t) at ≡ Got p next) where
  steady_by : (s t : List ℕ) (at : ℕ) (x : PartRead) → read s at ≡ x → part_out x ≡ false → read (s ++ t) at ≡ x
  steady_by s t at (Got p next) e b = stays s at next p e t
  steady_by s t at RunsOut e b = let z : ◌≡◌ {A = ℕ} 0 1 = cc in absurd (omega arith)

  both : Steady part_out read × Shorter part_out read
  both =
      let steady : Steady part_out read = λ s t at b. steady_by s t at (read s at) refl b in
      (steady, shorter part_out read steady)

pub string_steady : StringSteady
string_steady = both read_string (λ s at next p e. (string_taken s at next p e).steady)

pub data_negative : DataNegative
data_negative s at = (data_below s at, below_data s at)

data_stays : (s t : List ℕ) (at : ℕ) (x : DataRead) → read_data s at ≡ x → data_out x ≡ false → read_data (s ++ t) at ≡ x
data_stays s t at (blobs.Got p next) e b = (data_taken s at next p e).steady t
data_stays s t at blobs.RunsOut e b = let z : ◌≡◌ {A = ℕ} 0 1 = cc in absurd (omega arith)
data_stays s t at blobs.NegativeLength e b = below_data (s ++ t) at (below_steady s at (data_below s at e) t)

pub data_steady : DataSteady
data_steady =
    let steady : Steady data_out read_data = λ s t at b. data_stays s t at (read_data s at) refl b in
    (steady, shorter data_out read_data steady)

pub raw_steady : RawSteady
raw_steady n = both (read_raw n) (λ s at next p e. (raw_taken n s at next p e).steady)
