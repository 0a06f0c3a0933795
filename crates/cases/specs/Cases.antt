-- The inputs of a test program: one behind the other, each after its length in one to three bytes, the low one first.
use Rattle.std.specs.Prelude.{ℕ, zero, suc, ◌+◌, ◌*◌, min, cond, List, length, get_or, eqb, leb, ℤ, negsuc, ◌+ℤ◌}
use Rattle.std.specs.Int.{w32}
use Rattle.std.proofs.Common.{to_z}
use Rattle.num.specs.Wrap.{wrap32}
use Rattle.packer.specs.Parts.{part, read_raw}
use Rattle.packer.specs.declared.Part.{Part}
use Rattle.packer.specs.declared.PartRead.{PartRead}
use Rattle.packer.specs.declared.PartRead.TheVariants.{Got, RunsOut}

-- byte k of a number of so many bytes at a place
unfoldable pub digit_at : List ℕ → ℕ → ℕ → ℕ → ℕ
digit_at s at width k = cond (leb width k) 0 (get_or s (at + k) 0)

-- the number
abbrev pub length_at : List ℕ → ℕ → ℕ → ℕ
length_at s at width = digit_at s at width 0 + 256 * digit_at s at width 1 + 65536 * digit_at s at width 2

-- the input whose length begins at a place: its part and the place of the next; or that no whole one is left
unfoldable pub case_at : List ℕ → ℕ → ℕ → PartRead
case_at s at width = cond (leb (at + width) (length s)) (read_raw (length_at s at width) s (at + width)) RunsOut

-- ---- the inputs from the first on

-- the place of the next input; the same where none is left
abbrev pub next_of : ℕ → PartRead → ℕ
next_of at (Got p next) = next
next_of at RunsOut = at

abbrev pub part_of : PartRead → Part
part_of (Got p next) = p
part_of RunsOut = part 0 0

abbrev pub whole_case : PartRead → ℕ
whole_case (Got p next) = 1
whole_case RunsOut = 0

-- the place of input k, counted from 0
unfoldable pub place_of : ℕ → List ℕ → ℕ → ℕ
place_of zero s width = 0
place_of (suc k) s width = next_of (place_of k s width) (case_at s (place_of k s width) width)

-- how many of the first k are there
unfoldable pub count_to : ℕ → List ℕ → ℕ → ℕ
count_to zero s width = 0
count_to (suc k) s width = count_to k s width + whole_case (case_at s (place_of k s width) width)

-- ---- what an input holds

-- the end of a name behind its length in a byte
abbrev pub name_end : List ℕ → ℕ
name_end s = min (1 + get_or s 0 0) (length s)

-- the number that is 100 less than a byte; 255 stands for the least
abbrev pub number_of : ℕ → ℤ
number_of b = cond (eqb b 255) (negsuc 2147483647) (wrap32 (to_z w32 b +ℤ negsuc 99))
