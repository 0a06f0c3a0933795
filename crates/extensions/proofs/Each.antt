-- What is so of each of the 20 extensions, by going over their list. Assumes nothing.
use Prim.Native.Nat.{ℕ, zero, suc, ◌≤◌}
use mathlib.Core.Path.{◌≡◌, refl, sym}
use mathlib.Core.Bool.{Bool, true, ◌&&◌, and-eq-true_iff}
use mathlib.Core.List.{List, [], ◌∷◌}
use native.Mathlib.Omega.{arith}
use native.Mathlib.Decide.{ℕ_discrete}
use lib.ListN.{length, get_or, get_or-eq_default}
use Rattle.num.proofs.Cases.{by_eq}
use Rattle.extensions.specs.Extensions.{all}
use Rattle.extensions.specs.declared.Extension.{Extension}
use Rattle.extensions.specs.declared.Extension.TheVariants.{
  Antibot,
  AuthInit,
  AuthLogin,
  AuthLogout,
  Ddnetver,
  DdnetverOld,
  Joinver6,
  Joinver7,
  PlayerFinish,
  PlayerName,
  PlayerReady,
  PlayerRejoin,
  PlayerSwap,
  PlayerTeam,
  TeamFinish,
  TeamLoadFailure,
  TeamLoadSuccess,
  TeamPractice,
  TeamSaveFailure,
  TeamSaveSuccess,
}

abbrev pub Each : (Extension → Type 0) → List Extension → Type 0
Each P [] = Unit
Each P (e ∷ es) = P e × Each P es

pub each : (P : Extension → Type 0) → Each P all → (e : Extension) → P e
unfolding all
each P h Antibot = h.0
each P h AuthInit = h.1.0
each P h AuthLogin = h.1.1.0
each P h AuthLogout = h.1.1.1.0
each P h Ddnetver = h.1.1.1.1.0
each P h DdnetverOld = h.1.1.1.1.1.0
each P h Joinver6 = h.1.1.1.1.1.1.0
each P h Joinver7 = h.1.1.1.1.1.1.1.0
each P h PlayerFinish = h.1.1.1.1.1.1.1.1.0
each P h PlayerName = h.1.1.1.1.1.1.1.1.1.0
each P h PlayerReady = h.1.1.1.1.1.1.1.1.1.1.0
each P h PlayerRejoin = h.1.1.1.1.1.1.1.1.1.1.1.0
each P h PlayerSwap = h.1.1.1.1.1.1.1.1.1.1.1.1.0
each P h PlayerTeam = h.1.1.1.1.1.1.1.1.1.1.1.1.1.0
each P h TeamFinish = h.1.1.1.1.1.1.1.1.1.1.1.1.1.1.0
each P h TeamLoadFailure = h.1.1.1.1.1.1.1.1.1.1.1.1.1.1.1.0
each P h TeamLoadSuccess = h.1.1.1.1.1.1.1.1.1.1.1.1.1.1.1.1.0
each P h TeamPractice = h.1.1.1.1.1.1.1.1.1.1.1.1.1.1.1.1.1.0
each P h TeamSaveFailure = h.1.1.1.1.1.1.1.1.1.1.1.1.1.1.1.1.1.1.0
each P h TeamSaveSuccess = h.1.1.1.1.1.1.1.1.1.1.1.1.1.1.1.1.1.1.1.0

-- a test that all of them pass
abbrev pub passes : (Extension → Bool) → List Extension → Bool
passes f [] = true
passes f (e ∷ es) = f e && passes f es

passed : (f : Extension → Bool) (es : List Extension) → passes f es ≡ true → Each (λ e. f e ≡ true) es
passed f [] h = tt
passed f (e ∷ es) h = let b = (and-eq-true_iff (f e) (passes f es)).0 h in (b.0, passed f es b.1)

pub tested : (f : Extension → Bool) → passes f all ≡ true → (e : Extension) → f e ≡ true
tested f h = each (λ e. f e ≡ true) (passed f all h)

-- ---- their places

-- the default arm of a match with the keys 0, 1, .. k - 1
abbrev pub Unlike : ℕ → ℕ → Type 0
Unlike zero n = Unit
Unlike (suc k) n = Unlike k n × (n ≡ k → ⊥)

pub outside : (k n : ℕ) → Unlike k n → k ≤ n
outside zero n r = omega arith
outside (suc k) n r = let h = outside k n r.0 in let q = r.1 in omega arith

pub length_all : length all ≡ 20
unfolding all
length_all = refl

last_at : TeamSaveSuccess ≡ get_or all 19 TeamSaveSuccess
unfolding all
last_at = refl

pub past_last : (k : ℕ) → 19 ≤ k → TeamSaveSuccess ≡ get_or all k TeamSaveSuccess
past_last k h =
    by_eq k 19 (λ q. rw q last_at)
    (λ q. sym (get_or-eq_default all TeamSaveSuccess (omega (arith, length_all))))
    (ℕ_discrete k 19)
