-- Finding an identifier among the extensions: one step, and what is found. Assumes nothing.
use Rattle.std.specs.Prelude.{Some}
use Prim.Native.Nat.{ℕ, ◌+◌, ◌<◌}
use mathlib.Core.Path.{◌≡◌, sym}
use mathlib.Core.Bool.{Bool, cond}
use mathlib.Core.List.{List, [], ◌∷◌}
use native.Mathlib.Omega.{arith}
use native.Mathlib.Numerals.{add-one}
use lib.ListN.{drop, get_or}
use lib.Seq.{drop-cons}
use Rattle.num.proofs.Cases.{by_bool}
use Rattle.kinds.specs.Magic.{same_bytes}
use Rattle.extensions.specs.Extensions.{id_at, all, find_in, find}
use Rattle.extensions.specs.declared.Extension.{Extension}
use Rattle.extensions.specs.declared.Extension.TheVariants.{TeamSaveSuccess}
use Rattle.extensions.proofs.Each.{length_all}
use Rattle.ids.proofs.Same.{same_true}

pub find_step : (id : List ℕ) (k : ℕ) → k < 20 → (e : Extension) → e ≡ get_or all k TeamSaveSuccess → (t : Bool) → same_bytes id (id_at e) ≡ t
    → find_in (drop k all) id ≡ cond t (Some e) (find_in (drop (k + 1) all) id)
unfolding find_in
find_step id k h e p t q = rw (drop-cons all k TeamSaveSuccess (omega (arith, length_all)), add-one, ← p, q)

known_is : (x e : Extension) → Some x ≡ Some e → x ≡ e
known_is x e h = cc

found_in : (es : List Extension) (id : List ℕ) (e : Extension) → find_in es id ≡ Some e → id_at e ≡ id
unfolding find_in
found_in [] id e h = let q : ◌≡◌ {A = ℕ} 0 1 = cc in absurd (omega arith)
found_in (x ∷ es) id e h =
    by_bool (same_bytes id (id_at x))
    (λ t. let q : x ≡ e = known_is x e (rw t at h) in rw (← q) (sym (same_true id (id_at x) t)))
    (λ t. found_in es id e (rw t at h))

-- the identifier that is found is the one that was looked for
pub found_is_law : (id : List ℕ) (e : Extension) → find id ≡ Some e → id_at e ≡ id
unfolding find
found_is_law id e h = found_in all id e h
