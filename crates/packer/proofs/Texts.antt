-- Laws of the definitions of specs/Texts.antt. Assumes nothing.
use Prim.Native.Nat.{ℕ}
use mathlib.Core.Path.{◌≡◌}
use mathlib.Core.Bool.{true, false}
use mathlib.Core.List.{List, ◌∷◌}
use native.Mathlib.Omega.{arith}
use lib.ListN.{length}
use lib.Dec.{eqb}
use lib.IntN.{pos}
use Rattle.num.proofs.Cases.{by_bool}
use Rattle.varint.specs.Written.{canonical}
use Rattle.packer.specs.Texts.{no_zero}

pub no_zero_head : (b : ℕ) (bs : List ℕ) → no_zero (b ∷ bs) ≡ true → (eqb b 0 ≡ false) × (no_zero bs ≡ true)
unfolding no_zero
no_zero_head b bs e =
    by_bool (eqb b 0)
    (λ t. let q : false ≡ true = rw t at e in let z : ◌≡◌ {A = ℕ} 0 1 = cc in absurd (omega arith))
    (λ t. (t, rw t at e))

-- what stands before data: its length
abbrev pub lead : List ℕ → List ℕ
lead b = canonical (pos (length b))
