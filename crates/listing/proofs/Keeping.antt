-- A list that takes finishes: a count that can't rise, and what the code tells of an event. Assumes nothing.
use Rattle.std.specs.Prelude.{Result, Ok, Err}
use Prim.Native.Nat.{ℕ}
use mathlib.Core.Path.{◌≡◌, refl, sym, ap, ◌∙◌}
use mathlib.Core.Bool.{Bool, true, false, cond, false≢true}
use mathlib.Core.List.{List}
use native.Mathlib.Omega.{arith}
use lib.IntN.{ℤ}
use borrow.Author.Tests.{leb-false, lt-leb}
use Rattle.refusal.specs.declared.Refusal.{Refusal}
use Rattle.refusal.specs.declared.Refusal.TheVariants.{BadState}
use Rattle.state.specs.Reading.{Event}
use Rattle.state.proofs.Numbers.{picks_first}
use Rattle.results.specs.Results.{Finish, finish_of, results_with, keep, fits, Keeps}
use Rattle.results.specs.declared.Results.{Results}
use Rattle.results.proofs.Theorems.{count_rises}
use Rattle.listing.specs.steps.Lists.{KeepsEvent}

-- a count that is past the last stays so
pub stays_past : (l : Results) (fs : List Finish) → fits l ≡ false → fits (keep l fs) ≡ false
stays_past l fs e =
    let h = leb-false l.others 18446744073709551615 e in
    lt-leb (keep l fs).others 18446744073709551615 (omega (arith, count_rises l fs))

-- ---- by what the code says of an event

module _ (l : Results) where
  said_others : (b : Bool) (n m : ℕ) → Ok n ≡ cond b (Ok m) (Err BadState) → (b ≡ true) × (n ≡ m)
  said_others true n m e = (refl, cc)
  said_others false n m e = (cc, cc)

  said_refused : (b : Bool) (r : Refusal) (m : ℕ) → Err r ≡ cond b (Ok m) (Err BadState) → b ≡ false
  said_refused true r m e = cc
  said_refused false r m e = refl

  module _ (k : ℤ) (e : Event) {r : Result ℕ Refusal} {marks : List ℕ} {times ticks : List ℤ}
      (h : Keeps l (finish_of k e) r marks times ticks)
    where
      pub beside_others : (n : ℕ) → r ≡ Ok n
          → KeepsEvent l k e (record { fits = true; others = n }) (results_with marks times ticks n)
      beside_others n q =
          let after = keep l (finish_of k e) in
          let s = said_others (fits after) n after.others (sym q ∙ h.said) in
          let left = sym (picks_first (fits after) after l s.0) in
          record {
            fits = sym s.0;
            list =
                λ _. λ i.
                results_with ((h.marks ∙ ap (λ (x : Results). x.marks) left) i) ((h.times ∙ ap (λ (x : Results). x.times) left) i)
                ((h.ticks ∙ ap (λ (x : Results). x.ticks) left) i) (s.1 i);
          }

      pub beside_refused : (x : Refusal) (n : ℕ) (l₁ : Results) → r ≡ Err x → KeepsEvent l k e (record { fits = false; others = n }) l₁
      beside_refused x n l₁ q =
          let after = keep l (finish_of k e) in
          record {
            fits = sym (said_refused (fits after) x after.others (sym q ∙ h.said));
            list = λ f. absurd (false≢true f);
          }
