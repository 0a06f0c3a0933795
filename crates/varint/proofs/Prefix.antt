-- An integer that stands at a place of a list: read back, within 32 bits, and not changed by what follows. Assumes nothing.
use Rattle.std.specs.Prelude.{Option, None}
use Prim.Native.Nat.{ℕ, ◌+◌, ◌-◌, ◌≤◌, ◌<◌}
use mathlib.Core.Path.{◌≡◌, refl, sym, ◌∙◌}
use mathlib.Core.List.{List, [], ◌∷◌, ◌++◌}
use mathlib.Core.Bool.{cond}
use native.Mathlib.Omega.{arith}
use native.Mathlib.Nat.{add-zero}
use lib.ListN.{length, get_or, drop, length-drop, take-append-drop}
use lib.Seq.{get_or-drop, drop-append-le, drop-drop}
use lib.Dec.{eqb}
use lib.IntN.{ℤ}
use mir.Syntax.{w32}
use mir.Val.{SFits}
use Rattle.varint.specs.Integers.{amount, sign_of, is_last, value_of, read_from, read_int}
use Rattle.varint.specs.Written.{canonical, first_byte}
use Rattle.num.proofs.Cases.{by_bool}
use Rattle.num.proofs.Signs.{reads_fit}
use Rattle.varint.proofs.RoundTrip.{from_start}
use Rattle.varint.proofs.Back.{read_canonical}
use Rattle.varint.specs.declared.Remark.{Remark}
use Rattle.varint.specs.declared.IntRead.TheVariants.{Got}

-- the reading depends on the bytes from its place on
from_drop : (s : List ℕ) (at : ℕ) → read_int s at ≡ read_from (drop at s) at 0 (sign_of (get_or (drop at s) 0 0)) 0
unfolding read_int
from_drop s at = rw (get_or-drop at s 0 0, add-zero)

first_of : (z : ℤ) (rest : List ℕ) → get_or (canonical z ++ rest) 0 0 ≡ first_byte z
unfolding canonical
first_of z rest = refl

-- the written form that stands at a place is read back
pub canonical_at : (z : ℤ) → SFits w32 z → (s rest : List ℕ) (at : ℕ) → drop at s ≡ canonical z ++ rest → read_int s at ≡ Got z (at + length (canonical z)) None
canonical_at z f s rest at e = rw (from_drop s at, e, first_of z rest) (from_start z f at rest)

-- what is read without a remark is the written form
pub int_whole : (s : List ℕ) (at next : ℕ) (v : ℤ) → ((i : ℕ) → get_or s i 0 < 256) → read_int s at ≡ Got v next None
    → (drop at s ≡ canonical v ++ drop next s) × (next ≡ at + length (canonical v))
int_whole s at next v b r =
    let g = read_canonical s at next v b r in
    let n : next - at ≡ length (canonical v) = omega (arith, g.1) in
    (sym (take-append-drop (next - at) (drop at s)) ∙ rw (g.0, drop-drop, n, ← g.1), g.1)

module _ (at sign : ℕ) (v : ℤ) (next : ℕ) (r : Option Remark) where
  from_prefix : (xs t : List ℕ) (k n : ℕ) → read_from xs at k sign n ≡ Got v next r → read_from (xs ++ t) at k sign n ≡ Got v next r
  unfolding read_from
  from_prefix [] t k n e = let z : ◌≡◌ {A = ℕ} 0 1 = cc in absurd (omega arith)
  from_prefix (b ∷ xs) t k n e =
      by_bool (is_last k b)
      (λ l. rw l (rw l at e))
      (λ l. rw l (from_prefix xs t (k + 1) _ (rw l at e)))

  from_within : (xs : List ℕ) (k n : ℕ) → read_from xs at k sign n ≡ Got v next r → next ≤ at + k + length xs
  unfolding read_from
  from_within [] k n e = let z : ◌≡◌ {A = ℕ} 0 1 = cc in absurd (omega arith)
  from_within (b ∷ xs) k n e =
      by_bool (is_last k b)
      (λ l.
      let q = rw l at e in
      let m : next ≡ at + k + 1 = cc in
      omega arith)
      (λ l. omega (arith, from_within xs (k + 1) _ (rw l at e)))

value_fits : (sign n : ℕ) → SFits w32 (value_of sign n)
unfolding value_of
value_fits sign n = reads_fit (cond (eqb sign 0) n (4294967295 - n))

from_fits : (xs : List ℕ) (at k sign n next : ℕ) (v : ℤ) (r : Option Remark) → read_from xs at k sign n ≡ Got v next r → SFits w32 v
unfolding read_from
from_fits [] at k sign n next v r e = let z : ◌≡◌ {A = ℕ} 0 1 = cc in absurd (omega arith)
from_fits (b ∷ xs) at k sign n next v r e =
    by_bool (is_last k b)
    (λ l.
    let q = rw l at e in
    let m : v ≡ value_of sign (n + amount k b) = cc in
    rw m (value_fits sign (n + amount k b)))
    (λ l. from_fits xs at (k + 1) sign _ next v r (rw l at e))

-- what is read is a number of 32 bits
pub int_fits : (s : List ℕ) (at : ℕ) (v : ℤ) (next : ℕ) (r : Option Remark) → read_int s at ≡ Got v next r → SFits w32 v
unfolding read_int
int_fits s at v next r e = from_fits (drop at s) at 0 (sign_of (get_or s at 0)) 0 next v r e

first_same : (xs t : List ℕ) (v : ℤ) (at next : ℕ) (r : Option Remark) → read_from xs at 0 (sign_of (get_or xs 0 0)) 0 ≡ Got v next r → get_or (xs ++ t) 0 0 ≡ get_or xs 0 0
unfolding read_from
first_same [] t v at next r e = let z : ◌≡◌ {A = ℕ} 0 1 = cc in absurd (omega arith)
first_same (b ∷ xs) t v at next r e = refl

module _ (s : List ℕ) (at : ℕ) (v : ℤ) (next : ℕ) (r : Option Remark) (h : at ≤ length s) (e : read_int s at ≡ Got v next r) where
  pub int_prefix : (t : List ℕ) → read_int (s ++ t) at ≡ Got v next r
  int_prefix t =
      let q = sym (from_drop s at) ∙ e in
      rw (from_drop (s ++ t) at, drop-append-le at s t h, first_same (drop at s) t v at next r q)
      (from_prefix at (sign_of (get_or (drop at s) 0 0)) v next r (drop at s) t 0 0 q)

  pub int_within : next ≤ length s
  int_within =
      let q = from_within at (sign_of (get_or (drop at s) 0 0)) v next r (drop at s) 0 0 (sym (from_drop s at) ∙ e) in
      omega (arith, length-drop at s)
