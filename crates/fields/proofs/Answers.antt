-- Three answers of a reading are never the same, and two of what was got are so by their parts. Two tests at once. Assumes nothing.
use Prim.Native.Nat.{ℕ}
use mathlib.Core.Path.{◌≡◌, refl}
use mathlib.Core.Bool.{Bool, true, false, ◌&&◌}
use native.Mathlib.Omega.{arith}
use Rattle.refusal.specs.declared.Refusal.{Refusal}
use Rattle.fields.specs.Fields.{got, runs_out, refused}

module _ {A C : Type 0} {v : A} {next : ℕ} where
  pub not_out : runs_out ≡ got v next → C
  not_out e = let z : ◌≡◌ {A = ℕ} 0 1 = cc in absurd (omega arith)

  pub not_refused : {r : Refusal} → refused r ≡ got v next → C
  not_refused e = let z : ◌≡◌ {A = ℕ} 0 1 = cc in absurd (omega arith)

-- what holds of what was got
pub same_got : {A : Type 0} {v w : A} {m n : ℕ} (P : A → ℕ → Type 0) → got w m ≡ got v n → P w m → P v n
same_got {v = v} {w = w} {m = m} {n = n} P e p =
    let a : v ≡ w = cc in
    let b : n ≡ m = cc in
    rw (a, b) p

pub and_both : (a b : Bool) → a ≡ true → b ≡ true → (a && b) ≡ true
and_both a b p q = rw (p, q)

pub and_split : (a b : Bool) → (a && b) ≡ true → (a ≡ true) × (b ≡ true)
and_split true b e = (refl, e)
and_split false b e = let z : ◌≡◌ {A = ℕ} 0 1 = cc in absurd (omega arith)
