-- 16 bytes as the numbers of their halves, and comparing by them.
use Rattle.std.specs.Prelude.{ℕ, ◌+◌, ◌*◌, ◌<◌, ◌≡◌, Bool, List, [], ◌∷◌, length, take, drop}
use Rattle.kinds.specs.Magic.{same_bytes}
use Rattle.ids.specs.declared.Halves.{Halves}

-- the number of some bytes behind others, whose number is n: each is worth 256 of the next
abbrev pub big_endian : ℕ → List ℕ → ℕ
big_endian n [] = n
big_endian n (b ∷ bs) = big_endian (n * 256 + b) bs

abbrev pub halves_with : ℕ → ℕ → Halves
halves_with a b = record { first = a; second = b }

abbrev pub halves : List ℕ → Halves
halves xs = halves_with (big_endian 0 (take 8 xs)) (big_endian 0 (drop 8 xs))

abbrev pub AllBytes : List ℕ → Type 0
AllBytes [] = Unit
AllBytes (b ∷ bs) = (b < 256) × AllBytes bs

pub record Sixteen (xs : List ℕ) : Type 0 where
  pub bytes : AllBytes xs
  pub size : length xs ≡ 16

-- it is answered whether the window's bytes are those of the halves
abbrev pub TellsSame : List ℕ → Halves → Bool → Type 0
TellsSame w h r = (xs : List ℕ) → Sixteen xs → h ≡ halves xs → r ≡ same_bytes w xs
