-- Strings, data and raw bytes, docs/FORMAT.md, "Records". What is read is a part of the window: a place and a length.
use Rattle.std.specs.Prelude.{ℕ, ◌+◌, cond, List, [], ◌∷◌, length, take, drop, leb, eqb, ℤ, pos, negsuc}
use Rattle.varint.specs.Integers.{read_int}
use Rattle.varint.specs.declared.IntRead.{IntRead}
use Rattle.varint.specs.declared.IntRead.TheVariants as ints
use Rattle.packer.specs.declared.Part.{Part}
use Rattle.packer.specs.declared.PartRead.{PartRead}
use Rattle.packer.specs.declared.PartRead.TheVariants.{Got, RunsOut}
use Rattle.packer.specs.declared.DataRead.{DataRead}
use Rattle.packer.specs.declared.DataRead.TheVariants as blobs

abbrev pub part : ℕ → ℕ → Part
part at len = record { at = at; len = len }

-- the bytes at a place and length; none where they reach outside the window
unfoldable pub shown : List ℕ → Part → List ℕ
shown s p = cond (leb (p.at + p.len) (length s)) (take p.len (drop p.at s)) []

-- so many bytes at a place
unfoldable pub read_raw : ℕ → List ℕ → ℕ → PartRead
read_raw n s at = cond (leb (at + n) (length s)) (Got (part at n) (at + n)) RunsOut

-- the rest of a string that began at `at` and has n bytes so far
unfoldable pub string_from : List ℕ → ℕ → ℕ → PartRead
string_from [] at n = RunsOut
string_from (b ∷ s) at n = cond (eqb b 0) (Got (part at n) (at + n + 1)) (string_from s at (n + 1))

-- a string runs to a 00, which is used and not shown
unfoldable pub read_string : List ℕ → ℕ → PartRead
read_string s at = string_from (drop at s) at 0

-- so many bytes, as data
abbrev pub as_data : PartRead → DataRead
as_data (Got p next) = blobs.Got p next
as_data RunsOut = blobs.RunsOut

-- data of a length, which may be below 0
abbrev pub data_of : List ℕ → ℤ → ℕ → DataRead
data_of s (pos n) next = as_data (read_raw n s next)
data_of s (negsuc n) next = blobs.NegativeLength

abbrev pub data_after : List ℕ → IntRead → DataRead
data_after s (ints.Got z next remark) = data_of s z next
data_after s ints.RunsOut = blobs.RunsOut

-- data is an integer length, then the bytes
unfoldable pub read_data : List ℕ → ℕ → DataRead
read_data s at = data_after s (read_int s at)
