-- Signed numbers: their order turned around and chained, and whether two are the same. Assumes nothing.
use Prim.Native.Nat.{ℕ}
use mathlib.Core.Path.{◌≡◌, refl, ap}
use mathlib.Core.Bool.{Bool, true, false}
use native.Mathlib.Omega.{arith}
use lib.Dec.{T}
use lib.IntN.{ℤ, pos, negsuc}
use lib.Signed.{lt_z, le_z, ≤ℤ_refl, <ℤ-≤ℤ_trans, le_z_yes, lt_z_yes}
use borrow.Author.Tests.{leb-true, leb-false, lt-ltb, le-ltb, ltb-true, ltb-false, le-leb, eqb-true, eq-eqb}
use Rattle.state.specs.State.{same_int}

-- ---- turned around

pub not_lower : (a b : ℤ) → le_z a b ≡ true → lt_z b a ≡ false
not_lower (pos a) (pos b) e = le-ltb b a (leb-true a b e)
not_lower (pos a) (negsuc b) e = let z : ◌≡◌ {A = ℕ} 0 1 = cc in absurd (omega arith)
not_lower (negsuc a) (pos b) e = refl
not_lower (negsuc a) (negsuc b) e = le-ltb a b (leb-true b a e)

pub is_lower_law : (a b : ℤ) → le_z a b ≡ false → lt_z b a ≡ true
is_lower_law (pos a) (pos b) e = lt-ltb b a (leb-false a b e)
is_lower_law (pos a) (negsuc b) e = refl
is_lower_law (negsuc a) (pos b) e = let z : ◌≡◌ {A = ℕ} 0 1 = cc in absurd (omega arith)
is_lower_law (negsuc a) (negsuc b) e = lt-ltb a b (leb-false b a e)

pub no_higher_law : (a b : ℤ) → lt_z a b ≡ false → le_z b a ≡ true
no_higher_law (pos a) (pos b) e = le-leb b a (ltb-false a b e)
no_higher_law (pos a) (negsuc b) e = refl
no_higher_law (negsuc a) (pos b) e = let z : ◌≡◌ {A = ℕ} 0 1 = cc in absurd (omega arith)
no_higher_law (negsuc a) (negsuc b) e = le-leb a b (ltb-false b a e)

-- ---- chained

passed : {b : Bool} → b ≡ true → T b
passed e = rw e tt

flag : (b : Bool) → T b → b ≡ true
flag true t = refl
flag false t = absurd t

pub same_le : (a : ℤ) → le_z a a ≡ true
same_le a = flag (le_z a a) (≤ℤ_refl a).le

pub lt_le_lt : (a b c : ℤ) → lt_z a b ≡ true → le_z b c ≡ true → lt_z a c ≡ true
lt_le_lt a b c p q = flag (lt_z a c) (<ℤ-≤ℤ_trans (lt_z_yes {a = a} {b = b} (passed p)) (le_z_yes {a = b} {b = c} (passed q))).lt

pub lt_le : (a b : ℤ) → lt_z a b ≡ true → le_z a b ≡ true
lt_le (pos a) (pos b) e = let h = ltb-true a b e in le-leb a b (omega arith)
lt_le (pos a) (negsuc b) e = let z : ◌≡◌ {A = ℕ} 0 1 = cc in absurd (omega arith)
lt_le (negsuc a) (pos b) e = refl
lt_le (negsuc a) (negsuc b) e = let h = ltb-true b a e in le-leb b a (omega arith)

-- ---- the same

pub same_true : (a b : ℤ) → same_int a b ≡ true → a ≡ b
same_true (pos a) (pos b) e = ap pos (eqb-true a b e)
same_true (pos a) (negsuc b) e = let z : ◌≡◌ {A = ℕ} 0 1 = cc in absurd (omega arith)
same_true (negsuc a) (pos b) e = let z : ◌≡◌ {A = ℕ} 0 1 = cc in absurd (omega arith)
same_true (negsuc a) (negsuc b) e = ap negsuc (eqb-true a b e)

same_self : (a : ℤ) → same_int a a ≡ true
same_self (pos a) = eq-eqb a a refl
same_self (negsuc a) = eq-eqb a a refl

pub same_false : (a b : ℤ) → same_int a b ≡ false → a ≡ b → ⊥
same_false a b e p =
    let s = same_self b in
    let q = rw p at e in
    let z : ◌≡◌ {A = ℕ} 0 1 = cc in omega arith
