-- A record that is no command has nothing beside it: it is whole without arguments. Assumes nothing.
use Rattle.std.specs.Prelude.{Option, Some, None}
use Prim.Native.Nat.{ℕ, suc}
use mathlib.Core.Path.{◌≡◌, refl, sym, ap}
use mathlib.Core.Bool.{true, false}
use mathlib.Core.List.{List, [], ◌∷◌, append-nil}
use native.Mathlib.Omega.{arith}
use lib.ListN.{length, take}
use lib.Seq.{take_all}
use Rattle.packer.specs.Parts.{shown, read_raw, read_data}
use Rattle.packer.specs.declared.Part.{Part}
use Rattle.packer.specs.declared.PartRead.{PartRead}
use Rattle.packer.specs.declared.PartRead.TheVariants as parts
use Rattle.packer.specs.declared.DataRead.{DataRead}
use Rattle.packer.specs.declared.DataRead.TheVariants as blobs
use Rattle.fields.specs.Fields.{Field, int, str, blob, Value, bytes, Reading, got, runs_out, refused, read_field, read_fields}
use Rattle.fields.specs.steps.Sorts.{push, and_then}
use Rattle.extensions.specs.Extensions.{Payload, shaped, all_data, payload_at, find}
use Rattle.extensions.specs.declared.Extension.{Extension}
use Rattle.item.specs.Records.{Content, content, as_content, of_payload, of_found, read_ex, read_rest}
use Rattle.item.specs.steps.Reading.{up_to, after_data, after_id}
use Rattle.item.specs.Contents.{with_beside, no_args}
use Rattle.item.specs.Own.{own_fields}
use Rattle.item.specs.steps.Beside.{beside}
use Rattle.kinds.specs.declared.Kind.{Kind}
use Rattle.kinds.specs.declared.Kind.TheVariants as kinds
use Rattle.item.specs.declared.Tag.{Tag}
use Rattle.item.specs.declared.Tag.TheVariants.{Plain, Named}
use Rattle.item.specs.Own.{own_content}
use Rattle.rests.specs.steps.Kinds.{is_other}
use Rattle.rests.proofs.Others.{no_other, by_other}
use Rattle.kinds.specs.steps.Kinds.{is_command}

-- ---- as many values as fields

abbrev Counted : ℕ → Reading (List (Value Part)) → Type 0
Counted l (got vs n) = length vs ≡ l
Counted l runs_out = Unit
Counted l (refused r) = Unit

count_push : (l : ℕ) (v : Value Part) (x : Reading (List (Value Part))) → Counted l x → Counted (suc l) (push v x)
count_push l v (got vs n) h = ap suc h
count_push l v runs_out h = tt
count_push l v (refused r) h = tt

count_after : (l : ℕ) (x : Reading (Value Part)) (k : ℕ → Reading (List (Value Part))) → ((n : ℕ) → Counted l (k n)) → Counted (suc l) (and_then x k)
count_after l (got v n) k h = count_push l v (k n) (h n)
count_after l runs_out k h = tt
count_after l (refused r) k h = tt

counted : (fs : List Field) (w : List ℕ) (at : ℕ) → Counted (length fs) (read_fields fs w at)
counted [] w at = refl
counted (f ∷ fs) w at = count_after (length fs) (read_field f w at) (read_fields fs w) (counted fs w)

-- ---- records whose values are all their own

abbrev Whole : Reading (Content Part) → Type 0
Whole (got c n) = with_beside (own_content c) [] no_args ≡ c
Whole runs_out = Unit
Whole (refused r) = Unit

whole_values : (t : Tag) (vs : List (Value Part)) → beside t [] no_args ≡ [] → length vs ≡ length (own_fields t)
    → with_beside (own_content (content t vs)) [] no_args ≡ content t vs
whole_values t vs b e =
    let a : take (length (own_fields t)) vs ≡ vs = take_all (length (own_fields t)) vs (omega arith) in
    rw (b, append-nil (take (length (own_fields t)) vs), a)

whole_as : (t : Tag) (x : Reading (List (Value Part))) → beside t [] no_args ≡ [] → Counted (length (own_fields t)) x → Whole (as_content t x)
whole_as t (got vs n) b h = whole_values t vs b h
whole_as t runs_out b h = tt
whole_as t (refused r) b h = tt

whole_up : (end : ℕ) (x : Reading (Content Part)) → Whole x → Whole (up_to end x)
whole_up end (got c n) h = h
whole_up end runs_out h = tt
whole_up end (refused r) h = tt

module _ (w : List ℕ) where
  whole_payload : (p : Part) (k : Extension) (y : Payload) (next : ℕ) → payload_at k ≡ y → Whole (of_payload w p k y next)
  whole_payload p k (shaped fs) next e =
      let x = read_fields fs (take next w) p.at in
      whole_up next (as_content (Named k) x) (whole_as (Named k) x refl (rw e (counted fs (take next w) p.at)))
  whole_payload p k all_data next e = whole_values (Named k) (bytes p ∷ []) refl (rw e)

  whole_found : (id p : Part) (f : Option Extension) (next : ℕ) → Whole (of_found w id p f next)
  whole_found id p (Some k) next = whole_payload p k (payload_at k) next refl
  whole_found id p None next = refl

  whole_data : (id : Part) (x : DataRead) → Whole (after_data w id x)
  whole_data id (blobs.Got p next) = whole_found id p (find (shown w id)) next
  whole_data id blobs.RunsOut = tt
  whole_data id blobs.NegativeLength = tt

  whole_id : (x : PartRead) → Whole (after_id w x)
  whole_id (parts.Got id next) = whole_data id (read_data w next)
  whole_id parts.RunsOut = tt

  whole_ex : (at : ℕ) → Whole (read_ex w at)
  unfolding read_ex
  whole_ex at = whole_id (read_raw 16 w at)

  whole_rest : (k : Kind) (at : ℕ) → is_other k ≡ true → is_command k ≡ false → Whole (read_rest k w at)
  unfolding read_rest
  whole_rest k at o =
      by_other (λ k. is_command k ≡ false → Whole (read_rest k w at))
      (λ _. whole_as (Plain kinds.Message) (read_fields (int ∷ blob ∷ []) w at) refl (counted (int ∷ blob ∷ []) w at))
      (λ _. whole_as (Plain kinds.Join) (read_fields (int ∷ []) w at) refl (counted (int ∷ []) w at))
      (λ _. whole_as (Plain kinds.Drop) (read_fields (int ∷ str ∷ []) w at) refl (counted (int ∷ str ∷ []) w at))
      (λ e. no_other (sym e))
      (λ _. whole_ex at) k o

  pub whole_got : (k : Kind) (at : ℕ) (c : Content Part) (n : ℕ) → is_other k ≡ true → is_command k ≡ false → read_rest k w at ≡ got c n
      → with_beside (own_content c) [] no_args ≡ c
  whole_got k at c n o p e = rw e at (whole_rest k at o p)
