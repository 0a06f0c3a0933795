-- A list that takes on the elements of another, from the front: one by one, or ten by ten. Assumes nothing.
use Prim.Native.Nat.{ℕ, zero, suc, ◌+◌, ◌*◌, ◌/◌, ◌%◌, ◌≤◌, ◌<◌}
use mathlib.Core.Path.{◌≡◌, refl, sym, ap, ◌∙◌}
use mathlib.Core.List.{List}
use native.Mathlib.Omega.{arith}
use native.Mathlib.Decide.{ℕ_discrete}
use lib.ListN.{length, get_or, set, length-set}
use lib.Seq.{get_or-set_same, get_or-set_other, set-get_or, ext_get_or}
use lib.IntN.{ℤ, pos}
use Rattle.num.proofs.Cases.{by_eq}
use Rattle.state.specs.State.{ten_of, put_ten}
use Rattle.state.proofs.Ten.{ten_at, ten_length, put_length, ten_other, ten_put}

-- ---- one by one

-- b with the first n elements of a
unfoldable pub over : {A : Type 0} → A → ℕ → List A → List A → List A
over d zero a b = b
over d (suc n) a b = set (over d n a b) n (get_or a n d)

module _ {A : Type 0} (d : A) (a b : List A) where
  over_length : (n : ℕ) → length (over d n a b) ≡ length b
  unfolding over
  over_length zero = refl
  over_length (suc n) = length-set (over d n a b) n (get_or a n d) ∙ over_length n

  -- not yet
  pub over_at : (n i : ℕ) → n ≤ i → get_or (over d n a b) i d ≡ get_or b i d
  unfolding over
  over_at zero i h = refl
  over_at (suc n) i h = get_or-set_other (over d n a b) n i (get_or a n d) d (λ e. omega arith) ∙ over_at n i (omega arith)

  over_below : (n i : ℕ) → n ≤ length b → i < n → get_or (over d n a b) i d ≡ get_or a i d
  unfolding over
  over_below zero i l h = absurd (omega arith)
  over_below (suc n) i l h =
      by_eq i n
      (λ e. rw e (get_or-set_same (over d n a b) n (get_or a n d) d (omega (arith, over_length n))))
      (λ o. get_or-set_other (over d n a b) n i (get_or a n d) d o ∙ over_below n i (omega arith) (omega arith))
      (ℕ_discrete i n)

  -- all of them
  pub over_all : (n : ℕ) → length a ≡ n → length b ≡ n → over d n a b ≡ a
  over_all n ha hb =
      let l = over_length n in
      ext_get_or d (over d n a b) a (omega arith) (λ i h. over_below n i (omega arith) (omega arith))

  -- one that is the same
  pub over_same : (n : ℕ) → get_or b n d ≡ get_or a n d → over d n a b ≡ over d (suc n) a b
  unfolding over
  over_same n e = rw (← e, ← over_at n n (omega arith)) (sym (set-get_or (over d n a b) n d))

-- ---- ten by ten

by_tens : (n : ℕ) (a b : List ℤ) → length a ≡ 10 * n → length b ≡ 10 * n → ((c : ℕ) → c < n → ten_of a c ≡ ten_of b c) → a ≡ b
by_tens n a b ha hb same =
    ext_get_or (pos 0) a b (ha ∙ sym hb)
    (λ i h.
    let c = i / 10 in
    let k = i % 10 in
    let q : i ≡ 10 * c + k = omega arith in
    let b10 : k < 10 = omega arith in
    rw q (sym (ten_at a c k b10) ∙ ap (λ (l : List ℤ). get_or l k (pos 0)) (same c (omega arith)) ∙ ten_at b c k b10))

unfoldable pub over_ten : ℕ → List ℤ → List ℤ → List ℤ
over_ten zero a b = b
over_ten (suc n) a b = put_ten (over_ten n a b) n (ten_of a n)

module _ (a b : List ℤ) where
  over_ten_length : (n : ℕ) → length (over_ten n a b) ≡ length b
  unfolding over_ten
  over_ten_length zero = refl
  over_ten_length (suc n) = put_length (over_ten n a b) n (ten_of a n) ∙ over_ten_length n

  over_ten_at : (n c : ℕ) → n ≤ c → ten_of (over_ten n a b) c ≡ ten_of b c
  unfolding over_ten
  over_ten_at zero c h = refl
  over_ten_at (suc n) c h = ten_other (over_ten n a b) n (ten_of a n) c (λ e. omega arith) ∙ over_ten_at n c (omega arith)

  over_ten_below : (n c : ℕ) → 10 * n ≤ length b → c < n → ten_of (over_ten n a b) c ≡ ten_of a c
  unfolding over_ten
  over_ten_below zero c l h = absurd (omega arith)
  over_ten_below (suc n) c l h =
      by_eq c n
      (λ e. rw e (ten_put (over_ten n a b) n (ten_of a n) (omega (arith, over_ten_length n)) (ten_length a n)))
      (λ o. ten_other (over_ten n a b) n (ten_of a n) c o ∙ over_ten_below n c (omega arith) (omega arith))
      (ℕ_discrete c n)

  pub over_ten_all : (n : ℕ) → length a ≡ 10 * n → length b ≡ 10 * n → over_ten n a b ≡ a
  over_ten_all n ha hb =
      by_tens n (over_ten n a b) a (over_ten_length n ∙ hb) ha (λ c h. over_ten_below n c (omega arith) h)

  pub over_ten_same : (m n : ℕ) → length b ≡ 10 * m → n < m → ten_of b n ≡ ten_of a n → over_ten n a b ≡ over_ten (suc n) a b
  unfolding over_ten
  over_ten_same m n hb h e =
      let l = over_ten n a b in
      let s = over_ten_length n in
      by_tens m l (put_ten l n (ten_of a n)) (s ∙ hb) (put_length l n (ten_of a n) ∙ s ∙ hb)
      (λ c k.
      by_eq c n
      (λ q. rw q (over_ten_at n n (omega arith) ∙ e ∙ sym (ten_put l n (ten_of a n) (omega arith) (ten_length a n))))
      (λ o. sym (ten_other l n (ten_of a n) c o))
      (ℕ_discrete c n))
