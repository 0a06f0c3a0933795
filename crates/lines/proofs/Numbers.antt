-- Numbers put one after the other. Assumes nothing.
use Prim.Native.Nat.{ℕ, suc, ◌+◌, ◌≤◌, ◌<◌}
use mathlib.Core.Path.{◌≡◌, refl, ◌∙◌, ap}
use mathlib.Core.List.{List, [], ◌∷◌, ◌++◌}
use native.Mathlib.Omega.{arith}
use native.Mathlib.Numerals.{add-one}
use lib.ListN.{length, length-append, set, drop, get_or}
use lib.Seq.{drop-cons}
use lib.IntN.{ℤ, pos, negsuc}
use lib.Signed.{mag}
use Rattle.varint.specs.Written.{written}
use Rattle.varint.proofs.Writing.{fits_written}
use Rattle.packer.proofs.Joined.{Put, joined, written_length, first_fits, next_fits, two_puts}
use Rattle.lines.specs.Lines.{natural, spaced, decimals}
use Rattle.lines.proofs.Digits.{natural_le}

-- ---- one number

with_minus : (z : ℤ) → z ≡ negsuc (mag z) → spaced z ≡ (32 ∷ 45 ∷ []) ++ natural (mag z + 1)
unfolding spaced
with_minus (pos n) e = let z : ◌≡◌ {A = ℕ} 0 1 = cc in absurd (omega arith)
with_minus (negsuc n) e = rw add-one

without : (z : ℤ) → z ≡ pos (mag z) → spaced z ≡ (32 ∷ []) ++ natural (mag z)
unfolding spaced
without (pos n) e = refl
without (negsuc n) e = let z : ◌≡◌ {A = ℕ} 0 1 = cc in absurd (omega arith)

pub spaced_le : (z : ℤ) → length (spaced z) ≤ 12
unfolding spaced
spaced_le (pos n) = omega (arith, natural_le n)
spaced_le (negsuc n) = omega (arith, natural_le (suc n))

pub some_bytes : (z : ℤ) → 1 ≤ length (spaced z)
unfolding spaced
some_bytes (pos n) = omega arith
some_bytes (negsuc n) = omega arith

module _ (xs : List ℕ) (at : ℕ) (z : ℤ) (fits : at + length (spaced z) ≤ length xs) where
  module _ (e : z ≡ negsuc (mag z)) where
    whole : at + length ((32 ∷ 45 ∷ []) ++ natural (mag z + 1)) ≤ length xs
    whole = rw (with_minus z e) at fits

    minus : Put xs at (32 ∷ 45 ∷ []) (at + 2) (set (set xs at 32) (at + 1) 45)
    minus = (refl, rw add-one (fits_written xs at (32 ∷ 45 ∷ []) (first_fits xs at (32 ∷ 45 ∷ []) (natural (mag z + 1)) whole)))

    pub minus_fits : at + 2 + length (natural (mag z + 1)) ≤ length (set (set xs at 32) (at + 1) 45)
    minus_fits = next_fits xs at (32 ∷ 45 ∷ []) (natural (mag z + 1)) whole (at + 2) _ minus

    pub minus_put : (m : ℕ) (ys : List ℕ) → Put (set (set xs at 32) (at + 1) 45) (at + 2) (natural (mag z + 1)) m ys → Put xs at (spaced z) m ys
    minus_put m ys p = rw (with_minus z e) (two_puts xs at (32 ∷ 45 ∷ []) (natural (mag z + 1)) whole (at + 2) _ minus m ys p)

  module _ (e : z ≡ pos (mag z)) where
    plain : at + length ((32 ∷ []) ++ natural (mag z)) ≤ length xs
    plain = rw (without z e) at fits

    space : Put xs at (32 ∷ []) (at + 1) (set xs at 32)
    space = (refl, fits_written xs at (32 ∷ []) (first_fits xs at (32 ∷ []) (natural (mag z)) plain))

    pub plain_fits : at + 1 + length (natural (mag z)) ≤ length (set xs at 32)
    plain_fits = next_fits xs at (32 ∷ []) (natural (mag z)) plain (at + 1) _ space

    pub plain_put : (m : ℕ) (ys : List ℕ) → Put (set xs at 32) (at + 1) (natural (mag z)) m ys → Put xs at (spaced z) m ys
    plain_put m ys p = rw (without z e) (two_puts xs at (32 ∷ []) (natural (mag z)) plain (at + 1) _ space m ys p)

-- ---- several

pub none : decimals [] ≡ []
unfolding decimals
none = refl

pub numbers_at : (ns : List ℤ) (i : ℕ) → i < length ns → decimals (drop i ns) ≡ spaced (get_or ns i (pos 0)) ++ decimals (drop (i + 1) ns)
unfolding decimals
numbers_at ns i h = rw (add-one, drop-cons ns i (pos 0) h)

-- one more of them
module _ (ns : List ℤ) (i : ℕ) (h : i < length ns) (out : List ℕ) (next : ℕ) (fits : next + length (decimals (drop i ns)) ≤ length out) where
  split : next + length (spaced (get_or ns i (pos 0)) ++ decimals (drop (i + 1) ns)) ≤ length out
  split = rw (numbers_at ns i h) at fits

  pub one_fits : next + length (spaced (get_or ns i (pos 0))) ≤ length out
  one_fits = first_fits out next (spaced (get_or ns i (pos 0))) (decimals (drop (i + 1) ns)) split

  module _ (m : ℕ) (ys : List ℕ) (p : Put out next (spaced (get_or ns i (pos 0))) m ys) where
    pub same_size : length ys ≡ length out
    same_size = ap length p.1 ∙ written_length out next (spaced (get_or ns i (pos 0))) one_fits

    pub same_end : m + length (decimals (drop (i + 1) ns)) ≡ next + length (decimals (drop i ns))
    same_end = rw (numbers_at ns i h) (omega (arith, p.0, length-append (spaced (get_or ns i (pos 0))) (decimals (drop (i + 1) ns))))

    pub same_bytes : written ys m (decimals (drop (i + 1) ns)) ≡ written out next (decimals (drop i ns))
    same_bytes = rw (numbers_at ns i h, p.0, p.1) (joined out next (spaced (get_or ns i (pos 0))) (decimals (drop (i + 1) ns)) split)
