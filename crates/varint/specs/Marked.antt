-- The marked integers of docs/FORMAT.md: bytes, and what reading them answers.
use Rattle.std.specs.Prelude.{ℕ, List, [], ◌∷◌, ℤ, pos, neg_ℤ, Some, None}
use Rattle.varint.specs.declared.Remark.TheVariants.{Overlong, Padding}
use Rattle.varint.specs.declared.IntRead.{IntRead}
use Rattle.varint.specs.declared.IntRead.TheVariants.{Got, RunsOut}

pub record Case : Type 0 where
  pub bytes : List ℕ
  pub answer : IntRead

abbrev pub case : List ℕ → IntRead → Case
case b a = record { bytes = b; answer = a }

abbrev pub neg : ℕ → ℤ
neg n = neg_ℤ (pos n)

unfoldable pub marked : List Case
marked =
    case (0x00 ∷ []) (Got (pos 0) 1 None)
    ∷ case (0x3F ∷ []) (Got (pos 63) 1 None)
    ∷ case (0x40 ∷ []) (Got (neg 1) 1 None)
    ∷ case (0x7F ∷ []) (Got (neg 64) 1 None)
    ∷ case (0x80 ∷ 0x01 ∷ []) (Got (pos 64) 2 None)
    ∷ case (0xC0 ∷ 0x01 ∷ []) (Got (neg 65) 2 None)
    ∷ case (0xBF ∷ 0xFF ∷ 0xFF ∷ 0xFF ∷ 0x0F ∷ []) (Got (pos 2147483647) 5 None)
    ∷ case (0xFF ∷ 0xFF ∷ 0xFF ∷ 0xFF ∷ 0x0F ∷ []) (Got (neg 2147483648) 5 None)
    ∷ case (0x80 ∷ 0x00 ∷ []) (Got (pos 0) 2 (Some Overlong))
    ∷ case (0x80 ∷ 0x80 ∷ 0x80 ∷ 0x80 ∷ 0x10 ∷ []) (Got (neg 2147483648) 5 (Some Padding))
    ∷ case (0xC0 ∷ 0x80 ∷ 0x80 ∷ 0x80 ∷ 0x10 ∷ []) (Got (pos 2147483647) 5 (Some Padding))
    ∷ case (0x80 ∷ 0x80 ∷ 0x80 ∷ 0x80 ∷ 0x80 ∷ []) (Got (pos 0) 5 (Some Padding))
    ∷ case (0x80 ∷ []) RunsOut
    ∷ []
