-- Bytes put into a target that has room for them.
use Rattle.std.specs.Prelude.{ℕ, ◌+◌, ◌≤◌, ◌≡◌, Bool, true, List, length, Result, Ok, Err}
use Rattle.refusal.specs.declared.Refusal.{Refusal}
use Rattle.varint.specs.Written.{written}

-- the place past what was written; another where it was refused
abbrev pub past_of : Result ℕ Refusal → ℕ → ℕ
past_of (Ok next) other = next
past_of (Err r) other = other

abbrev pub HasRoom : List ℕ → ℕ → List ℕ → Type 0
HasRoom xs at bs = at + length bs ≤ length xs

-- they have a written form, and the target has room for it
abbrev pub Ready : Bool → List ℕ → ℕ → List ℕ → Type 0
Ready ok xs at bs = (ok ≡ true) × HasRoom xs at bs

-- the place past the bytes, and the target after it
abbrev pub PutsBytes : List ℕ → ℕ → List ℕ → ℕ → List ℕ → Type 0
PutsBytes xs at bs next ys = (next ≡ at + length bs) × (ys ≡ written xs at bs)
