-- A record that a program holds, with its parts inside the bytes lent with it: its meaning has values of the right sorts. Assumes
-- nothing.
use Prim.Native.Nat.{ℕ, ◌+◌}
use mathlib.Core.Path.{◌≡◌, ◌∙◌}
use mathlib.Core.Bool.{true}
use mathlib.Core.List.{List, [], ◌∷◌, map}
use lib.ListN.{length}
use lib.IntN.{ℤ}
use mir.Syntax.{w32}
use mir.Val.{SFits}
use borrow.Author.Tests.{leb-true}
use Rattle.packer.specs.Parts.{shown}
use Rattle.packer.specs.declared.Part.{Part}
use Rattle.packer.proofs.Parts.{shown_length}
use Rattle.fields.specs.Fields.{Field, int, dt, mask, str, uuid, blob, args, Value, num, bytes, strings, on_num, on_bytes, on_strings, mean}
use Rattle.fields.specs.Writing.{inside, parts_inside}
use Rattle.fields.specs.steps.Sorts.{value_inside}
use Rattle.fields.specs.Forms.{natural32, SortOf, Sorted, AllSorted}
use Rattle.fields.proofs.Answers.{and_split}
use Rattle.item.specs.declared.Tag.{Tag}
use Rattle.item.specs.declared.Tag.TheVariants.{Plain, Named, Other}
use Rattle.extensions.specs.Extensions.{payload_at}
use Rattle.item.specs.Records.{rest_of}
use Rattle.item.specs.Contents.{own_payload}
use Rattle.written.specs.Written.{all_fields}
use Rattle.written.specs.Laws.{AllTyped, TypedContent}
use Rattle.written.proofs.Back.{SortedContent}

module _ (s : List ℕ) where
  -- what holds of a value that is a number, bytes or strings
  number : (P : ℤ → Type 0) (v : Value Part) → on_num ⊥ P v → on_num ⊥ P (mean s v)
  number P (num z) t = t
  number P (bytes p) t = t
  number P (strings ps) t = t

  part : (P : Part → Type 0) (Q : List ℕ → Type 0) (v : Value Part) → value_inside s v ≡ true → ((p : Part) → inside s p ≡ true → P p → Q (shown s p))
      → on_bytes ⊥ P v → on_bytes ⊥ Q (mean s v)
  part P Q (num z) i f t = t
  part P Q (bytes p) i f t = f p i t
  part P Q (strings ps) i f t = t

  parts : (v : Value Part) → on_strings ⊥ (λ ps. Unit) v → on_strings ⊥ (λ bs. Unit) (mean s v)
  parts (num z) t = t
  parts (bytes p) t = t
  parts (strings ps) t = tt

  typed : (f : Field) (v : Value Part) → SortOf (λ p. p.len) f v → value_inside s v ≡ true → Sorted f (mean s v)
  typed int v t i = number (SFits w32) v t
  typed dt v t i = number natural32 v t
  typed mask v t i = number natural32 v t
  typed str v t i = part (λ p. Unit) (λ b. Unit) v i (λ p j u. tt) t
  typed uuid v t i =
      part (λ p. p.len ≡ 16) (λ b. length b ≡ 16) v i
      (λ p j e. shown_length s p.at p.len (leb-true (p.at + p.len) (length s) j) ∙ e) t
  typed blob v t i = part (λ p. Unit) (λ b. Unit) v i (λ p j u. tt) t
  typed args v t i = parts v t

  all_typed : (fs : List Field) (vs : List (Value Part)) → AllTyped fs vs → parts_inside s vs ≡ true → AllSorted fs (map (mean s) vs)
  all_typed [] [] t i = tt
  all_typed [] (v ∷ vs) t i = t
  all_typed (f ∷ fs) [] t i = t
  all_typed (f ∷ fs) (v ∷ vs) t i =
      let o = and_split (value_inside s v) (parts_inside s vs) i in
      (typed f v t.0 o.0, all_typed fs vs t.1 o.1)

  pub content_typed : (t : Tag) (vs : List (Value Part)) → TypedContent t vs → parts_inside s vs ≡ true → SortedContent t (map (mean s) vs)
  content_typed (Plain k) vs t i = (t.0, all_typed (all_fields (rest_of k)) vs t.1 i)
  content_typed (Named k) vs t i = all_typed (own_payload (payload_at k)) vs t i
  content_typed Other vs t i = all_typed (uuid ∷ blob ∷ []) vs t i
