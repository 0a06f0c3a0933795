-- The magic, and the versions. docs/FORMAT.md, "What a call may say"; the bytes are `UUID` of format/mod.rs.
use Rattle.std.specs.Prelude.{ℕ, Bool, true, false, cond, ◌&&◌, List, [], ◌∷◌, length, take, ltb, eqb, ℤ, pos, negsuc}
use Rattle.refusal.specs.Said.{Said, gives, refusing}
use Rattle.refusal.specs.declared.Refusal.TheVariants.{WrongMagic, UnknownVersion, UnexpectedEnd}
use Rattle.kinds.specs.declared.Version.{Version}
use Rattle.kinds.specs.declared.Version.TheVariants.{V1, V2}

-- two lists of bytes are the same
unfoldable pub same_bytes : List ℕ → List ℕ → Bool
same_bytes [] [] = true
same_bytes [] (y ∷ ys) = false
same_bytes (x ∷ xs) [] = false
same_bytes (x ∷ xs) (y ∷ ys) = eqb x y && same_bytes xs ys

unfoldable pub magic : List ℕ
magic = 0x69 ∷ 0x9d ∷ 0xb1 ∷ 0x7b ∷ 0x8e ∷ 0xfb ∷ 0x34 ∷ 0xff ∷ 0xb1 ∷ 0xd8 ∷ 0xda ∷ 0x6f ∷ 0x60 ∷ 0xc1 ∷ 0x5d ∷ 0xd1 ∷ []

-- 16 used; 1 where the first 16 bytes are others; 3 where there are fewer
unfoldable pub read_magic : List ℕ → Said Unit
read_magic s =
    cond (ltb (length s) 16)
    (refusing UnexpectedEnd)
    (cond (same_bytes (take 16 s) magic) (gives tt 16) (refusing WrongMagic))

-- versions 1 and 2, of no bytes; another is refusal 2
abbrev pub version_of : ℤ → Said Version
version_of (pos n) = cond (eqb n 1) (gives V1 0) (cond (eqb n 2) (gives V2 0) (refusing UnknownVersion))
version_of (negsuc n) = refusing UnknownVersion
