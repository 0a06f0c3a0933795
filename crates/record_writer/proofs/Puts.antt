-- Bytes put one after the other into a target that has room for them. Assumes nothing.
use Rattle.std.specs.Prelude.{Result, Ok}
use Prim.Native.Nat.{ℕ, ◌+◌}
use mathlib.Core.Path.{◌≡◌, sym, ◌∙◌, ap}
use mathlib.Core.List.{List, [], ◌++◌}
use native.Mathlib.Omega.{arith}
use native.Mathlib.Nat.{add-zero}
use lib.ListN.{length, length-append}
use Rattle.refusal.specs.declared.Refusal.{Refusal}
use Rattle.varint.specs.Written.{written}
use Rattle.varint.specs.steps.Writing.{wrote}
use Rattle.varint.proofs.Writing.{fits_answer}
use Rattle.packer.proofs.Joined.{written_length, joined, nothing_put}
use Rattle.record_writer.specs.steps.Puts.{past_of, HasRoom, PutsBytes}

-- what a call that wrote them tells
pub put_past : (xs : List ℕ) (at : ℕ) (bs : List ℕ) → HasRoom xs at bs → {w : Result ℕ Refusal} {ys : List ℕ} {next : ℕ}
    → w ≡ wrote xs at bs → ys ≡ written xs at bs → next ≡ past_of w at → PutsBytes xs at bs next ys
put_past xs at bs h p q r = (r ∙ ap (λ v. past_of v at) (p ∙ sym (fits_answer xs at bs h)), q)

-- what a call answers that has nothing to put
pub put_none : (xs : List ℕ) (at : ℕ) → HasRoom xs at [] → (Ok at ≡ wrote xs at []) × (xs ≡ written xs at [])
put_none xs at h = (ap Ok (sym (add-zero at)) ∙ fits_answer xs at [] h, nothing_put xs at (omega arith))

-- ---- a loop that puts: what is left makes of the target what all makes of the first one

abbrev pub Rest : List ℕ → ℕ → List ℕ → List ℕ → ℕ → List ℕ → Type 0
Rest xs at all ys next rest = (next + length rest ≡ at + length all) × ((length ys ≡ length xs) × (written ys next rest ≡ written xs at all))

module _ (xs : List ℕ) (at : ℕ) (all : List ℕ) (h : HasRoom xs at all) (ys : List ℕ) (next : ℕ) where
  pub rest_done : Rest xs at all ys next [] → PutsBytes xs at all next ys
  rest_done r = (omega (arith, r.0), nothing_put ys next (omega (arith, r.0, r.1.0)) ∙ r.1.1)

  module _ (a b : List ℕ) (r : Rest xs at all ys next (a ++ b)) where
    pub rest_room : HasRoom ys next a
    rest_room = omega (arith, r.0, r.1.0, length-append a b)

    pub rest_step : {m : ℕ} {zs : List ℕ} → PutsBytes ys next a m zs → Rest xs at all zs m b
    rest_step p =
        rw (p.0, p.1) (
          omega (arith, r.0, length-append a b),
          (
            written_length ys next a rest_room ∙ r.1.0,
            joined ys next a b (omega (arith, r.0, r.1.0)) ∙ r.1.1,
          ),
        )
