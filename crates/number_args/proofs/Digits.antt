-- A byte behind a number, and what is left of the digits. Assumes nothing.
use Rattle.std.specs.Prelude.{Some, None}
use Prim.Native.Nat.{ℕ, suc, ◌+◌, ◌≤◌, ◌<◌}
use mathlib.Core.Path.{◌≡◌, refl, sym, ◌∙◌, subst}
use mathlib.Core.Bool.{Bool, true, false, cond, ◌&&◌}
use mathlib.Core.List.{List, [], ◌∷◌}
use native.Mathlib.Omega.{arith}
use native.Mathlib.Numerals.{add-one}
use borrow.Author.Tests.{leb-true}
use lib.ListN.{length, drop, get_or, drop_of_length-le}
use lib.Seq.{drop-cons}
use lib.Dec.{T, leb}
use lib.IntN.{pos}
use Rattle.number_args.specs.Numbers.{is_digit, with_digit, digits_after, number_in}

-- the test of a byte behind a number
abbrev pub onward : ℕ → ℕ → Bool
onward n b = is_digit b && leb (with_digit n b) 2147483647

module _ (n b : ℕ) where
  both_right : (s t : Bool) → (s && t) ≡ true → t ≡ true
  both_right true t e = e
  both_right false t e = absurd (subst T (sym e) tt)

  pub small : onward n b ≡ true → with_digit n b ≤ 2147483647
  small e = leb-true (with_digit n b) 2147483647 (both_right (is_digit b) (leb (with_digit n b) 2147483647) e)

-- ---- along the text

pub none : (l : List ℕ) → length l ≡ 0 → None ≡ number_in l
unfolding number_in
none [] h = refl
none (b ∷ bs) h = absurd (omega arith)

pub some : (l : List ℕ) → (length l ≡ 0 → ⊥) → number_in l ≡ digits_after 0 l
unfolding number_in
some [] h = absurd (h refl)
some (b ∷ bs) h = refl

module _ (l : List ℕ) (n i : ℕ) (h : i < length l) where
  at_digit : (t : Bool) → onward n (get_or l i 0) ≡ t
      → digits_after n (drop i l) ≡ cond t (digits_after (with_digit n (get_or l i 0)) (drop (suc i) l)) None
  unfolding digits_after
  at_digit t e = rw (drop-cons l i 0 h, e)

  pub bad_digit : onward n (get_or l i 0) ≡ false → digits_after n (drop i l) ≡ None
  bad_digit e = at_digit false e

  pub good_digit : onward n (get_or l i 0) ≡ true → digits_after n (drop i l) ≡ digits_after (with_digit n (get_or l i 0)) (drop (i + 1) l)
  good_digit e = at_digit true e ∙ rw add-one

pub no_digit : (l : List ℕ) (n i : ℕ) → length l ≤ i → digits_after n (drop i l) ≡ Some (pos n)
unfolding digits_after
no_digit l n i h = rw (drop_of_length-le l h)
