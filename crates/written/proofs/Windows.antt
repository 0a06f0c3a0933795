-- A window, and a shorter one at its beginning. Assumes nothing.
use Prim.Native.Nat.{ℕ, ◌+◌, ◌≤◌}
use mathlib.Core.Path.{◌≡◌, refl, sym, ◌∙◌, ap}
use mathlib.Core.Bool.{true}
use mathlib.Core.List.{List, [], ◌∷◌, ◌++◌}
use native.Mathlib.Omega.{arith}
use lib.ListN.{length, take, drop, length-append, length-drop, get_or-eq_default}
use lib.Seq.{take_at, get_or-take, length-take-le}
use lib.Dec.{ltb}
use borrow.Author.Tests.{ltb-true, ltb-false, leb-true, le-leb}
use Rattle.num.proofs.Cases.{by_bool}
use Rattle.varint.specs.Laws.{Bytes}
use Rattle.packer.specs.declared.Part.{Part}
use Rattle.fields.specs.Fields.{Value, num, bytes, strings}
use Rattle.fields.specs.Writing.{inside, parts_inside}
use Rattle.fields.specs.steps.Sorts.{value_inside}
use Rattle.fields.specs.steps.Sorts.{all_inside}
use Rattle.fields.proofs.Answers.{and_both, and_split}

-- the bytes before a place
pub front : (s w : List ℕ) (n : ℕ) → n ≤ length s → s ≡ w ++ drop n s → w ≡ take n s
front s w n h e =
    let l : length w ≡ n = omega (arith, ap length e, length-append w (drop n s), length-drop n s) in
    sym (take_at w (drop n s) n l) ∙ ap (take n) (sym e)

pub bytes_take : (s : List ℕ) (n : ℕ) → n ≤ length s → Bytes s → Bytes (take n s)
bytes_take s n h b i =
    by_bool (ltb i n)
    (λ t. rw (get_or-take n s i 0 (ltb-true i n t)) (b i))
    (λ t. rw (get_or-eq_default (take n s) 0 {n = i} (omega (arith, length-take-le n s h, ltb-false i n t))) (omega arith))

-- parts inside a window are inside a longer one
module _ (s t : List ℕ) (h : length s ≤ length t) where
  part_inside : (p : Part) → inside s p ≡ true → inside t p ≡ true
  part_inside p i = le-leb (p.at + p.len) (length t) (omega (arith, leb-true (p.at + p.len) (length s) i))

  all_inside_law : (ps : List Part) → all_inside s ps ≡ true → all_inside t ps ≡ true
  all_inside_law [] i = refl
  all_inside_law (p ∷ ps) i =
      let o = and_split (inside s p) (all_inside s ps) i in
      and_both (inside t p) (all_inside t ps) (part_inside p o.0) (all_inside_law ps o.1)

  value_inside_law : (v : Value Part) → value_inside s v ≡ true → value_inside t v ≡ true
  value_inside_law (num z) i = refl
  value_inside_law (bytes p) i = part_inside p i
  value_inside_law (strings ps) i = all_inside_law ps i

  pub values_inside : (vs : List (Value Part)) → parts_inside s vs ≡ true → parts_inside t vs ≡ true
  values_inside [] i = refl
  values_inside (v ∷ vs) i =
      let o = and_split (value_inside s v) (parts_inside s vs) i in
      and_both (value_inside t v) (parts_inside t vs) (value_inside_law v o.0) (values_inside vs o.1)
