-- The arms of the matches on a version and on a kind. A match on a signed number compares bits. Assumes nothing.
use Prim.Native.Nat.{ℕ, zero, suc, ◌+◌, ◌-◌, ◌≤◌}
use mathlib.Core.Path.{◌≡◌, refl, sym, ap, ◌∙◌}
use mathlib.Core.Bool.{true, false}
use mathlib.Core.List.{List}
use native.Mathlib.Omega.{arith}
use lib.IntN.{ℤ, pos, negsuc}
use lib.Signed.{lt_z}
use borrow.Author.Tests.{ltb-true, ltb-false, ne_eqb}
use mir.Syntax.{w32}
use mir.Val.{SFits, to_z, of_z}
use Rattle.refusal.specs.Said.{refusing}
use Rattle.refusal.specs.declared.Refusal.TheVariants.{UnknownVersion, UnknownType}
use Rattle.num.proofs.Signs.{key}
use Rattle.fields.specs.Fields.{got, refused}
use Rattle.kinds.specs.Kinds.{kind_of}
use Rattle.kinds.specs.Magic.{version_of}
use Rattle.kinds.specs.declared.Version.{Version}
use Rattle.kinds.specs.declared.Kind.TheVariants.{PlayerDiff}

-- ---- versions

-- a number whose bits are neither those of 1 nor those of 2
pub no_version : (z : ℤ) → (of_z w32 z ≡ 1 → ⊥) → (of_z w32 z ≡ 2 → ⊥) → refusing UnknownVersion ≡ version_of z
no_version (pos n) p q = rw (ne_eqb n 1 p, ne_eqb n 2 q)
no_version (negsuc n) p q = refl

-- ---- kinds

-- the number with the bits of a key
pub arm : (v : Version) (s : List ℕ) (z : ℤ) (next : ℕ) {n : ℕ} → SFits w32 z → of_z w32 z ≡ n → kind_of v s (to_z w32 n) next ≡ kind_of v s z next
arm v s z next f e = sym (ap (λ (y : ℤ). kind_of v s y next) (key z f e))

-- bits unlike those of -1, -2, .. -k
abbrev pub Unlike : ℕ → ℕ → Type 0
Unlike zero n = Unit
Unlike (suc k) n = Unlike k n × (n ≡ 4294967295 - k → ⊥)

outside : (k n : ℕ) → n ≤ 4294967295 → Unlike k n → n + k ≤ 4294967295
outside zero n h r = omega arith
outside (suc k) n h r = let i = outside k n h r.0 in let q = r.1 in omega arith

-- below the keys
pub low : (v : Version) (s : List ℕ) (z : ℤ) (next : ℕ) → lt_z z (negsuc 10) ≡ true → refused (UnknownType z) ≡ kind_of v s z next
low v s (pos n) next e = let q : ◌≡◌ {A = ℕ} 0 1 = cc in absurd (omega arith)
low v s (negsuc n) next e =
    let h : 11 ≤ n = omega (arith, ltb-true 10 n e) in
    let p : n ≡ 11 + (n - 11) = omega arith in
    let q : suc (suc (suc (suc (suc (suc (suc (suc (suc (suc (suc (n - 11))))))))))) ≡ n = omega arith in
    ap (λ (m : ℕ). refused (UnknownType (negsuc m))) p ∙ ap (λ (m : ℕ). kind_of v s (negsuc m) next) q

-- above the keys
pub high : (v : Version) (s : List ℕ) (z : ℤ) (next : ℕ) → Unlike 11 (of_z w32 z) → lt_z z (negsuc 10) ≡ false → got (PlayerDiff z) next ≡ kind_of v s z next
high v s (pos n) next r e = refl
high v s (negsuc n) next r e = let h = outside 11 (4294967296 - suc n) (omega arith) r in absurd (omega (arith, ltb-false 10 n e))
