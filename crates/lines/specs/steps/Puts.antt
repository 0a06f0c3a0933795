-- Bytes put into a target where there is room.
use Rattle.std.specs.Prelude.{ℕ, ◌+◌, ◌≡◌, List, length}
use Rattle.varint.specs.Written.{written}

-- bytes that fit: the place past them, and the target with them in their place
abbrev pub PutsText : List ℕ → ℕ → List ℕ → ℕ → List ℕ → Type 0
PutsText xs at bs next ys = (next ≡ at + length bs) × (ys ≡ written xs at bs)
