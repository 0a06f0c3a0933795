-- A number is that of its bits. Assumes nothing.
use mathlib.Core.Path.{◌≡◌}
use lib.IntN.{ℤ}
use mir.Syntax.{w32}
use mir.Val.{to_z, of_z}

abbrev pub Same : ℤ → Type 0
Same z = to_z w32 (of_z w32 z) ≡ z
