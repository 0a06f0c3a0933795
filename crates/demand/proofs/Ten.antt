-- Ten numbers that are zeros. Assumes nothing.
use Prim.Native.Nat.{ℕ, ◌<◌}
use mathlib.Core.Path.{◌≡◌, sym, ◌∙◌}
use mathlib.Core.Bool.{true}
use mathlib.Core.List.{List}
use native.Mathlib.Omega.{arith}
use lib.ListN.{get_or-replicate}
use lib.Seq.{ext_get_or}
use lib.IntN.{ℤ, pos}
use Rattle.fields.specs.Views.{zeros}
use Rattle.state.specs.State.{ten_of, ten_zeros}
use Rattle.state.specs.steps.Parts.{zero_at}
use Rattle.state.proofs.Ten.{ten_length, ten_at}
use Rattle.demand.proofs.Tests.{same_true, every_at}

pub ten_zeros_law : (l : List ℤ) (c : ℕ) → ten_zeros l c ≡ true → ten_of l c ≡ zeros 10
unfolding ten_zeros
ten_zeros_law l c z =
    ext_get_or (pos 0) (ten_of l c) (zeros 10) (ten_length l c)
    (λ i h.
    let b : i < 10 = omega (arith, ten_length l c) in
    ten_at l c i b ∙ same_true _ _ (every_at 10 (zero_at l c) z i b) ∙ sym (get_or-replicate 10 i (pos 0) (pos 0) b))
