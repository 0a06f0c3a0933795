-- Each marked integer of docs/FORMAT.md is read as it says. Assumes nothing.
use mathlib.Core.Path.{◌≡◌, refl}
use mathlib.Core.List.{map}
use Rattle.varint.specs.Integers.{amount, value_of, remark_of, read_from, read_int}
use Rattle.varint.specs.Marked.{Case, marked}

pub marked_read : map (λ (c : Case). read_int c.bytes 0) marked ≡ map (λ (c : Case). c.answer) marked
unfolding marked read_int read_from amount value_of remark_of
marked_read = refl
