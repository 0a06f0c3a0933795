-- A test of each number below another. Assumes nothing.
use Prim.Native.Nat.{ℕ, zero, suc, ◌<◌}
use mathlib.Core.Path.{◌≡◌, ap, ◌∙◌}
use mathlib.Core.Bool.{Bool, true, ◌&&◌, and-eq-true_iff}
use native.Mathlib.Omega.{arith}
use native.Mathlib.Decide.{ℕ_discrete}
use Rattle.num.proofs.Cases.{by_eq}

-- the test passes at each number below n
abbrev pub below : (ℕ → Bool) → ℕ → Bool
below f zero = true
below f (suc n) = f n && below f n

pub at : (f : ℕ → Bool) (n k : ℕ) → k < n → below f n ≡ true → f k ≡ true
at f zero k h e = absurd (omega arith)
at f (suc n) k h e =
    let b = (and-eq-true_iff (f n) (below f n)).0 e in
    by_eq k n (λ q. ap f q ∙ b.0) (λ q. at f n k (omega arith) b.1) (ℕ_discrete k n)
