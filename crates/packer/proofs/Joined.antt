-- Bytes put into a target one after the other. Assumes nothing.
use Rattle.std.specs.Prelude.{Ok}
use Prim.Native.Nat.{ℕ, suc, ◌+◌, ◌≤◌, ◌<◌}
use mathlib.Core.Path.{◌≡◌, sym, ◌∙◌, ap}
use mathlib.Core.List.{List, [], ◌∷◌, ◌++◌}
use native.Mathlib.Omega.{arith}
use native.Mathlib.Nat.{add-zero}
use native.Mathlib.Numerals.{add-one}
use lib.ListN.{length, length-append, set, drop, get_or}
use lib.Seq.{sets, length-sets, drop-cons}
use Rattle.varint.specs.Written.{written}
use Rattle.varint.specs.steps.Writing.{wrote}
use Rattle.varint.proofs.Writing.{fits_written, fits_answer}

sets_join : (a b xs : List ℕ) (at : ℕ) → sets xs at (a ++ b) ≡ sets (sets xs at a) (at + length a) b
sets_join [] b xs at = rw add-zero
sets_join (x ∷ a) b xs at =
    let e : suc at + length a ≡ at + suc (length a) = omega arith in
    sets_join a b (set xs at x) (suc at) ∙ rw e

-- the target keeps its length
pub written_length : (xs : List ℕ) (at : ℕ) (a : List ℕ) → at + length a ≤ length xs → length (written xs at a) ≡ length xs
written_length xs at a h = rw (← fits_written xs at a h) (length-sets xs at a)

module _ (xs : List ℕ) (at : ℕ) (a b : List ℕ) (fits : at + length (a ++ b) ≤ length xs) where
  pub first_fits : at + length a ≤ length xs
  first_fits = omega (arith, length-append a b)

  pub second_fits : at + length a + length b ≤ length (written xs at a)
  second_fits = rw (written_length xs at a first_fits) (omega (arith, length-append a b))

  pub joined : written (written xs at a) (at + length a) b ≡ written xs at (a ++ b)
  joined =
      sym (fits_written (written xs at a) (at + length a) b second_fits)
      ∙ rw (← fits_written xs at a first_fits, ← sets_join) (fits_written xs at (a ++ b) fits)

pub nothing_put : (xs : List ℕ) (at : ℕ) → at ≤ length xs → xs ≡ written xs at []
nothing_put xs at h = fits_written xs at [] (omega arith)

-- one more byte of a list that is put
pub sets_step : (out b : List ℕ) (at i : ℕ) → i < length b → sets out (at + i) (drop i b) ≡ sets (set out (at + i) (get_or b i 0)) (at + (i + 1)) (drop (i + 1) b)
sets_step out b at i h =
    let e : at + (i + 1) ≡ suc (at + i) = omega arith in
    rw (drop-cons b i 0 h, e, add-one)

-- bytes put at a place: the place past them, and the target
abbrev pub Put : List ℕ → ℕ → List ℕ → ℕ → List ℕ → Type 0
Put xs at a next ys = (next ≡ at + length a) × (ys ≡ written xs at a)

-- what a call that put them answers
pub put_answer : (xs : List ℕ) (at : ℕ) (a : List ℕ) → at + length a ≤ length xs → (next : ℕ) (ys : List ℕ) → Put xs at a next ys → (Ok next ≡ wrote xs at a) × (ys ≡ written xs at a)
put_answer xs at a h next ys p = (ap Ok p.0 ∙ fits_answer xs at a h, p.1)

module _ (xs : List ℕ) (at : ℕ) (a b : List ℕ) (fits : at + length (a ++ b) ≤ length xs) (n : ℕ) (ys : List ℕ) (p : Put xs at a n ys) where
  pub next_fits : n + length b ≤ length ys
  next_fits = rw (p.0, p.1) (second_fits xs at a b fits)

  pub two_puts : (m : ℕ) (zs : List ℕ) → Put ys n b m zs → Put xs at (a ++ b) m zs
  two_puts m zs q =
      (q.0 ∙ omega (arith, p.0, length-append a b), q.1 ∙ rw (p.0, p.1) (joined xs at a b fits))
