-- A block of clients, from one on.
use Rattle.std.specs.Prelude.{ℕ, ◌+◌, Bool, List, get_or, eqb}

-- the test of the client at a place of the block that begins at c
abbrev pub from : ℕ → (ℕ → Bool) → ℕ → Bool
from c p k = p (c + k)

abbrev pub no_mark : List ℕ → ℕ → Bool
no_mark marks c = eqb (get_or marks c 0) 0
