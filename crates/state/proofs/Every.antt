-- Tests joined by `&&`, tests at every place below a number, and what holds of both things that a test picks from.
-- Assumes nothing.
use Prim.Native.Nat.{ℕ, zero, suc, ◌+◌, ◌<◌}
use mathlib.Core.Path.{◌≡◌, refl}
use mathlib.Core.Bool.{Bool, true, false, cond, ◌&&◌}
use native.Mathlib.Omega.{arith}
use native.Mathlib.Numerals.{add-one}
use Rattle.fields.proofs.Answers.{and_both}
use Rattle.state.specs.State.{every}

pub by_cond : {A : Type 0} (P : A → Type 0) (b : Bool) {x y : A} → (b ≡ true → P x) → (b ≡ false → P y) → P (cond b x y)
by_cond P true p q = p refl
by_cond P false p q = q refl

pub left_of_law : (a b : Bool) → (a && b) ≡ true → a ≡ true
left_of_law true b e = refl
left_of_law false b e = e

pub right_of : (a b : Bool) → (a && b) ≡ true → b ≡ true
right_of true b e = e
right_of false b e = let z : ◌≡◌ {A = ℕ} 0 1 = cc in absurd (omega arith)

pub every_from : (n : ℕ) (p : ℕ → Bool) → ((i : ℕ) → i < n → p i ≡ true) → every n p ≡ true
unfolding every
every_from zero p f = refl
every_from (suc n) p f = and_both (p n) (every n p) (f n (omega arith)) (every_from n p (λ i h. f i (omega arith)))

pub every_map : (n : ℕ) (p q : ℕ → Bool) → ((i : ℕ) → i < n → p i ≡ true → q i ≡ true) → every n p ≡ true → every n q ≡ true
unfolding every
every_map zero p q f e = refl
every_map (suc n) p q f e =
    and_both (q n) (every n q) (f n (omega arith) (left_of_law (p n) (every n p) e))
    (every_map n p q (λ i h. f i (omega arith)) (right_of (p n) (every n p) e))

pub every_same : (n : ℕ) {p q : ℕ → Bool} → ((i : ℕ) → i < n → p i ≡ q i) → every n p ≡ every n q
unfolding every
every_same zero f = refl
every_same (suc n) f = rw (f n (omega arith), every_same n (λ i h. f i (omega arith)))

-- ---- a loop that tests one place after the other

pub none_yet : (p : ℕ → Bool) → true ≡ every 0 p
unfolding every
none_yet p = refl

pub one_more : (p : ℕ → Bool) (i : ℕ) (t g r : Bool) → t ≡ p i → g ≡ every i p → r ≡ (t && g) → r ≡ every (i + 1) p
unfolding every
one_more p i t g r et eg er = rw (add-one, ← et, ← eg) er

pub all_tested : (p : ℕ → Bool) {n i : ℕ} {g : Bool} → g ≡ every i p → i ≡ n → g ≡ every n p
all_tested p e h = rw (← h) e
