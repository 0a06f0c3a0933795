-- A record is its content, and its outline writes it. Assumes nothing.
use Rattle.std.specs.Prelude.{Result}
use Prim.Native.Nat.{ℕ}
use mathlib.Core.Path.{◌≡◌, refl, sym, ◌∙◌, ap}
use mathlib.Core.Bool.{Bool, true, false}
use mathlib.Core.List.{List}
use Rattle.refusal.specs.declared.Refusal.{Refusal}
use Rattle.varint.specs.Written.{written_if, wrote_said}
use Rattle.varint.specs.steps.Writing.{wrote_if}
use Rattle.varint.proofs.Theorems.{writers_say}
use Rattle.packer.specs.declared.Part.{Part}
use Rattle.item.specs.Records.{Content}
use Rattle.item.specs.Contents.{item_of}
use Rattle.kinds.specs.declared.Version.{Version}
use Rattle.item.specs.declared.Record.{Record}
use Rattle.written.specs.Written.{write_content, record_bytes}
use Rattle.written.specs.Form.{content_writable, has_form}
use Rattle.written.specs.Unwritable.{record_writable, Writes}
use Rattle.written.proofs.Unwritable.{writable_is_form}
use Rattle.pieces.specs.steps.Pieces.{pieces_of, pieces_ok, pieces_bytes}
use Rattle.outlines.specs.steps.Outlines.{content_ok, content_bytes, Outlines}
use Rattle.pieces.specs.declared.Outline.{Outline}

-- what can't be written leaves the target, whatever its bytes
same_writes : (xs : List ℕ) (at : ℕ) (ok ok' : Bool) (a b : List ℕ) → ok ≡ ok' → (ok' ≡ true → a ≡ b)
    → (wrote_if ok xs at a ≡ wrote_if ok' xs at b) × (written_if ok xs at a ≡ written_if ok' xs at b)
same_writes xs at ok true a b e f = rw (e, f refl) (refl, refl)
same_writes xs at ok false a b e f = rw e (refl, refl)

module _ (v : Version) (s : List ℕ) (r : Record) (c : Content Part) (e : c ≡ item_of r.item) where
  record_ok : content_ok v s c r.input r.args ≡ record_writable v s r
  unfolding content_ok has_form content_writable
  record_ok = (rw e) ∙ sym (writable_is_form v s r)

  record_bytes_law : content_bytes s c r.input r.args ≡ record_bytes s r
  unfolding content_bytes record_bytes write_content
  record_bytes_law = rw e

  module _ (o : Outline) (p : Outlines v s c r.input r.args o) (xs : List ℕ) (at : ℕ) (w : Result ℕ Refusal) (ys : List ℕ) where
    pub outline_writes : let ps = pieces_of o r.input r.args in
        (w ≡ wrote_if (pieces_ok s ps) xs at (pieces_bytes s ps)) × (ys ≡ written_if (pieces_ok s ps) xs at (pieces_bytes s ps)) → Writes v s r xs at w ys
    outline_writes q =
        let ps = pieces_of o r.input r.args in
        let k = record_ok in
        let h = same_writes xs at (pieces_ok s ps) (record_writable v s r) (pieces_bytes s ps) (record_bytes s r) (p.ok ∙ k)
        (λ t. p.written (k ∙ t) ∙ record_bytes_law) in record {
          answer = ap wrote_said (q.0 ∙ h.0) ∙ writers_say (record_writable v s r) xs at (record_bytes s r);
          target = q.1 ∙ h.1;
        }
