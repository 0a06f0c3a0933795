-- Sums "with wrap at 32 bits": integers modulo 2 ^ 32. docs/FORMAT.md, "Ticks and the board".
use Rattle.std.specs.Prelude.{ℕ, ◌-◌, ◌%◌, ℤ, pos, negsuc}
use Rattle.std.specs.Int.{w32}
use Rattle.std.proofs.Common.{to_z}

-- the number from 0 to 2 ^ 32 - 1 that differs from z by a multiple of 2 ^ 32
abbrev pub residue : ℤ → ℕ
residue (pos n) = n % 4294967296
residue (negsuc n) = 4294967295 - n % 4294967296

-- the number from -2 ^ 31 to 2 ^ 31 - 1 that differs from z by a multiple of 2 ^ 32
abbrev pub wrap32 : ℤ → ℤ
wrap32 z = to_z w32 (residue z)
