-- Fields that stand behind others are read from the place past those. Assumes nothing.
use Prim.Native.Nat.{ℕ}
use mathlib.Core.Path.{◌≡◌, refl, ◌∙◌, ap}
use mathlib.Core.List.{List, [], ◌∷◌, ◌++◌}
use Rattle.fields.specs.Fields.{Field, Reading, got, runs_out, refused, read_field, read_fields}
use Rattle.fields.specs.steps.Sorts.{push, and_then}

-- values before those that are read after them
abbrev pub prepend : {A : Type 0} → List A → Reading (List A) → Reading (List A)
prepend [] x = x
prepend (v ∷ vs) x = push v (prepend vs x)

abbrev pub joined : {A : Type 0} → Reading (List A) → (ℕ → Reading (List A)) → Reading (List A)
joined (got vs next) k = prepend vs (k next)
joined runs_out k = runs_out
joined (refused r) k = refused r

push_joined : {A : Type 0} (v : A) (x : Reading (List A)) (k : ℕ → Reading (List A)) → push v (joined x k) ≡ joined (push v x) k
push_joined v (got vs next) k = refl
push_joined v runs_out k = refl
push_joined v (refused r) k = refl

then_joined : {A : Type 0} (x : Reading A) (f g k : ℕ → Reading (List A)) → ((next : ℕ) → f next ≡ joined (g next) k)
    → and_then x f ≡ joined (and_then x g) k
then_joined (got v next) f g k h = ap (push v) (h next) ∙ push_joined v (g next) k
then_joined runs_out f g k h = refl
then_joined (refused r) f g k h = refl

pub fields_joined : (fs gs : List Field) (s : List ℕ) (at : ℕ) → read_fields (fs ++ gs) s at ≡ joined (read_fields fs s at) (read_fields gs s)
fields_joined [] gs s at = refl
fields_joined (f ∷ fs) gs s at =
    then_joined (read_field f s at) (read_fields (fs ++ gs) s) (read_fields fs s) (read_fields gs s) (fields_joined fs gs s)
