-- What a mark tells, of players and of inputs: an entry is there where the client is below 128 and its mark is 1. Assumes nothing.
use Prim.Native.Nat.{ℕ, ◌≤◌, ◌<◌}
use mathlib.Core.Path.{◌≡◌}
use mathlib.Core.Bool.{Bool, true, false, ◌&&◌}
use mathlib.Core.List.{List}
use lib.ListN.{get_or}
use lib.Dec.{ltb, eqb}
use borrow.Author.Tests.{lt-ltb, le-ltb, ne_eqb}

abbrev pub marked : List ℕ → ℕ → Bool
marked l b = ltb b 128 && eqb (get_or l b 0) 1

pub here : (l : List ℕ) (b : ℕ) → b < 128 → get_or l b 0 ≡ 1 → marked l b ≡ true
here l b h e = rw (lt-ltb b 128 h, e)

pub away : (l : List ℕ) (b : ℕ) → b < 128 → (get_or l b 0 ≡ 1 → ⊥) → marked l b ≡ false
away l b h e = rw (lt-ltb b 128 h, ne_eqb (get_or l b 0) 1 e)

pub far : (l : List ℕ) (b : ℕ) → 128 ≤ b → marked l b ≡ false
far l b h = rw (le-ltb b 128 h)
