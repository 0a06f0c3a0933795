-- Ten numbers among many, those of one place: put in, got back, the others not touched. Assumes nothing.
use Prim.Native.Nat.{ℕ, zero, suc, ◌+◌, ◌*◌, ◌-◌, ◌≤◌, ◌<◌}
use mathlib.Core.Path.{◌≡◌, refl, sym, ◌∙◌}
use mathlib.Core.List.{List, [], ◌∷◌, map}
use native.Mathlib.Omega.{arith}
use native.Mathlib.Decide.{dec_lt, ℕ_discrete}
use lib.ListN.{length, get_or, set, length-set}
use lib.Seq.{get_or-set_same, get_or-set_other, ext_get_or}
use lib.IntN.{ℤ, pos}
use Rattle.num.proofs.Cases.{by_eq}
use Rattle.state.specs.State.{ten_of, puts, put_ten}

-- n places from k on
abbrev from : ℕ → ℕ → List ℕ
from k zero = []
from k (suc n) = k ∷ from (suc k) n

module _ (c : ℕ) (ns : List ℤ) where
  puts_length : (k n : ℕ) (l : List ℤ) → length (puts l c ns (from k n)) ≡ length l
  puts_length k zero l = refl
  puts_length k (suc n) l = puts_length (suc k) n _ ∙ length-set l (10 * c + k) (get_or ns k (pos 0))

  puts_off : (k n : ℕ) (l : List ℤ) (j : ℕ) → ((i : ℕ) → k ≤ i → i < k + n → j ≡ 10 * c + i → ⊥)
      → get_or (puts l c ns (from k n)) j (pos 0) ≡ get_or l j (pos 0)
  puts_off k zero l j off = refl
  puts_off k (suc n) l j off =
      puts_off (suc k) n _ j (λ i a b. off i (omega arith) (omega arith))
      ∙ get_or-set_other l (10 * c + k) j (get_or ns k (pos 0)) (pos 0) (off k (omega arith) (omega arith))

  puts_on : (k n : ℕ) (l : List ℤ) (i : ℕ) → 10 * c + (k + n) ≤ length l → k ≤ i → i < k + n
      → get_or (puts l c ns (from k n)) (10 * c + i) (pos 0) ≡ get_or ns i (pos 0)
  puts_on k zero l i h a b = absurd (omega arith)
  puts_on k (suc n) l i h a b =
      let v = get_or ns k (pos 0) in
      let put = set l (10 * c + k) v in
      by_eq i k
      (λ q.
      rw q
      (puts_off (suc k) n put (10 * c + k) (λ j p r e. omega arith)
      ∙ get_or-set_same l (10 * c + k) v (pos 0) (omega arith)))
      (λ q. puts_on (suc k) n put i (omega (arith, length-set l (10 * c + k) v)) (omega arith) (omega arith))
      (ℕ_discrete i k)

map_at : (f : ℕ → ℤ) (k n i j : ℕ) → i < n → j ≡ k + i → get_or (map f (from k n)) i (pos 0) ≡ f j
map_at f k zero i j h e = absurd (omega arith)
map_at f k (suc n) zero j h e = let q : j ≡ k = omega arith in rw q
map_at f k (suc n) (suc i) j h e = map_at f (suc k) n i j (omega arith) (omega arith)

pub ten_length : (l : List ℤ) (c : ℕ) → length (ten_of l c) ≡ 10
unfolding ten_of
ten_length l c = refl

pub ten_at : (l : List ℤ) (c i : ℕ) → i < 10 → get_or (ten_of l c) i (pos 0) ≡ get_or l (10 * c + i) (pos 0)
unfolding ten_of
ten_at l c i h = map_at (λ k. get_or l (10 * c + k) (pos 0)) 0 10 i i h (omega arith)

module _ (l : List ℤ) (c : ℕ) (ns : List ℤ) where
  pub put_length : length (put_ten l c ns) ≡ length l
  unfolding put_ten
  put_length = puts_length c ns 0 10 l

  put_off : (j : ℕ) → ((i : ℕ) → i < 10 → j ≡ 10 * c + i → ⊥) → get_or (put_ten l c ns) j (pos 0) ≡ get_or l j (pos 0)
  unfolding put_ten
  put_off j off = puts_off c ns 0 10 l j (λ i a b. off i b)

  -- a number of another place
  pub put_other : (d i : ℕ) → (d ≡ c → ⊥) → i < 10 → get_or (put_ten l c ns) (10 * d + i) (pos 0) ≡ get_or l (10 * d + i) (pos 0)
  put_other d i o h = put_off (10 * d + i) (λ j b e. o (omega arith))

  pub ten_other : (d : ℕ) → (d ≡ c → ⊥) → ten_of (put_ten l c ns) d ≡ ten_of l d
  ten_other d o =
      ext_get_or (pos 0) (ten_of (put_ten l c ns) d) (ten_of l d) (ten_length _ d ∙ sym (ten_length l d))
      (λ i b.
      let h : i < 10 = omega (arith, ten_length (put_ten l c ns) d) in
      ten_at (put_ten l c ns) d i h ∙ put_other d i o h ∙ sym (ten_at l d i h))

  module _ (room : 10 * c + 10 ≤ length l) where
    put_on : (i : ℕ) → i < 10 → get_or (put_ten l c ns) (10 * c + i) (pos 0) ≡ get_or ns i (pos 0)
    unfolding put_ten
    put_on i b = puts_on c ns 0 10 l i (omega arith) (omega arith) b

    pub ten_put : length ns ≡ 10 → ten_of (put_ten l c ns) c ≡ ns
    ten_put ten =
        ext_get_or (pos 0) (ten_of (put_ten l c ns) c) ns (ten_length _ c ∙ sym ten)
        (λ i b. let d : i < 10 = omega (arith, ten_length (put_ten l c ns) c) in ten_at (put_ten l c ns) c i d ∙ put_on i d)

pub put_back : (l : List ℤ) (c : ℕ) (ns : List ℤ) → 10 * c + 10 ≤ length l → put_ten (put_ten l c ns) c (ten_of l c) ≡ l
put_back l c ns room =
    ext_get_or (pos 0) (put_ten k c (ten_of l c)) l (put_length k c (ten_of l c) ∙ put_length l c ns) (λ j b. at j (dec_lt j (10 * c)))
  where
    k : List ℤ
    k = put_ten l c ns

    fits : 10 * c + 10 ≤ length k
    fits = rw (put_length l c ns) room

    off : (j : ℕ) → ((i : ℕ) → i < 10 → j ≡ 10 * c + i → ⊥) → get_or (put_ten k c (ten_of l c)) j (pos 0) ≡ get_or l j (pos 0)
    off j o = put_off k c (ten_of l c) j o ∙ put_off l c ns j o

    on : (j i : ℕ) → i < 10 → j ≡ 10 * c + i → get_or (put_ten k c (ten_of l c)) j (pos 0) ≡ get_or l j (pos 0)
    on j i b e = rw e (put_on k c (ten_of l c) fits i b ∙ ten_at l c i b)

    past : (j : ℕ) → 10 * c ≤ j → Dec (j < 10 * c + 10) → get_or (put_ten k c (ten_of l c)) j (pos 0) ≡ get_or l j (pos 0)
    past j a (yes b) = on j (j - 10 * c) (omega arith) (omega arith)
    past j a (no b) = off j (λ i d e. omega arith)

    at : (j : ℕ) → Dec (j < 10 * c) → get_or (put_ten k c (ten_of l c)) j (pos 0) ≡ get_or l j (pos 0)
    at j (yes b) = off j (λ i d e. omega arith)
    at j (no b) = past j (omega arith) (dec_lt j (10 * c + 10))
