-- What the room that a record leaves tells of the target. Assumes nothing.
use Rattle.std.specs.Prelude.{Result, Err}
use Prim.Native.Nat.{ℕ, ◌-◌}
use mathlib.Core.Path.{◌≡◌, refl, sym, ◌∙◌}
use mathlib.Core.Bool.{Bool, true, false}
use mathlib.Core.List.{List}
use native.Mathlib.Omega.{arith}
use lib.ListN.{length}
use lib.Dec.{leb}
use borrow.Author.Tests.{leb-true, leb-false}
use Rattle.refusal.specs.declared.Refusal.{Refusal}
use Rattle.num.proofs.Cases.{by_bool}
use Rattle.refusal.specs.declared.Refusal.TheVariants as refusals
use Rattle.varint.specs.Written.{written_if}
use Rattle.varint.specs.steps.Writing.{wrote_if}
use Rattle.varint.proofs.Writing.{short}
use Rattle.record_writer.specs.steps.Room.{left_after, room_at}
use Rattle.record_writer.specs.declared.Left.{Left}
use Rattle.record_writer.specs.declared.Left.TheVariants.{Room, Short, Unwritable}
use Rattle.record_writer.proofs.Leaves.{room_left, too_short, not_ok}
use Rattle.record_writer.specs.steps.Puts.{Ready}

module _ (k : ℕ) where
  none_left : (ok : Bool) (m : ℕ) → left_after Short ok k ≡ Room m → ⊥
  none_left true m e = let z : ◌≡◌ {A = ℕ} 0 1 = cc in omega arith
  none_left false m e = let z : ◌≡◌ {A = ℕ} 0 1 = cc in omega arith

  still_short : (ok : Bool) → left_after Short ok k ≡ Short → ok ≡ true
  still_short true e = refl
  still_short false e = let z : ◌≡◌ {A = ℕ} 0 1 = cc in absurd (omega arith)

  short_bad : (ok : Bool) → left_after Short ok k ≡ Unwritable → ok ≡ false
  short_bad true e = let z : ◌≡◌ {A = ℕ} 0 1 = cc in absurd (omega arith)
  short_bad false e = refl

module _ (xs : List ℕ) (at : ℕ) (ok : Bool) (bs : List ℕ) where
  -- what was refused left the target
  abbrev Kept : Result ℕ Refusal → Type 0
  Kept w = (w ≡ wrote_if ok xs at bs) × (xs ≡ written_if ok xs at bs)

  module _ (l : Left) (e : l ≡ left_after (room_at (length xs) at) ok (length bs)) where
    pub has_room : (m : ℕ) → l ≡ Room m → Ready ok xs at bs
    has_room m g =
        by_bool (leb at (length xs))
        (λ t.
        let h = room_left (length xs - at) (length bs) ok m (rw t at (sym e ∙ g)) in
        (h.0, omega (arith, h.1.0, leb-true at (length xs) t)))
        (λ t. absurd (none_left (length bs) ok m (rw t at (sym e ∙ g))))

    pub no_room : l ≡ Short → Kept (Err refusals.ShortTarget)
    no_room g =
        by_bool (leb at (length xs))
        (λ t.
        let h = too_short (length xs - at) (length bs) ok (rw t at (sym e ∙ g)) in
        rw h.0 (short xs at bs (omega (arith, h.1, leb-true at (length xs) t))))
        (λ t.
        let h = still_short (length bs) ok (rw t at (sym e ∙ g)) in
        rw h (short xs at bs (omega (arith, leb-false at (length xs) t))))

    pub no_form : l ≡ Unwritable → Kept (Err refusals.Unwritable)
    no_form g =
        by_bool (leb at (length xs))
        (λ t. rw (not_ok (length xs - at) (length bs) ok (rw t at (sym e ∙ g))) (refl, refl))
        (λ t. rw (short_bad (length bs) ok (rw t at (sym e ∙ g))) (refl, refl))
