-- Records taken apart: unsigned numbers in signed fields, and what the parts tell, the client and the kind's number. Assumes nothing.
use Prim.Native.Nat.{ℕ}
use mathlib.Core.Path.{◌≡◌, refl, sym, ap, ◌∙◌}
use mathlib.Core.List.{[], ◌∷◌}
use lib.IntN.{ℤ, pos}
use mir.Syntax.{w32}
use mir.Val.{Fits, to_z, of_z}
use mir.ValLaws.{of_z-to_z}
use Rattle.packer.specs.declared.Part.{Part}
use Rattle.fields.specs.Fields.{num, bytes}
use Rattle.fields.specs.steps.Sorts.{no_part}
use Rattle.shapes.specs.steps.Shapes.{values_in}
use Rattle.shapes.specs.declared.Fields.{Fields}
use Rattle.item.specs.Records.{Content, content}
use Rattle.item.specs.Contents.{item_of, tag_cid, cid_of}
use Rattle.item.specs.steps.Beside.{first_number}
use Rattle.item.specs.Own.{own_fields}
use Rattle.item.specs.Numbers.{tag_number}
use Rattle.item.specs.steps.Taken.{taken_of, TakenApart}
use Rattle.kinds.specs.declared.Kind.TheVariants as kinds
use Rattle.item.specs.declared.Tag.{Tag}
use Rattle.item.specs.declared.Tag.TheVariants.{Plain, Named, Other}
use Rattle.item.specs.declared.Item.{Item}
use Rattle.item.specs.declared.Item.TheVariants as items
use Rattle.item.specs.declared.Taken.{Taken}
use Rattle.extensions.specs.Extensions.{extension_row, payload_at, has_client, all}
use Rattle.extensions.specs.declared.Extension.{Extension}
use Rattle.extensions.proofs.Each.{each}

-- ---- unsigned numbers in signed fields

-- the bits of a local that holds the signed number of n's bits
pub bits_back : (n : ℕ) (z : ℤ) → Fits w32 n → z ≡ to_z w32 n → of_z w32 (to_z w32 (of_z w32 z)) ≡ n
bits_back n z f e =
    let b : of_z w32 z ≡ n = ap (of_z w32) e ∙ of_z-to_z w32 n f in
    ap (λ (m : ℕ). of_z w32 (to_z w32 m)) b ∙ of_z-to_z w32 n f

pub tick_apart : (n : ℕ) (z : ℤ) → of_z w32 z ≡ n → TakenApart (items.TickSkip n) (taken_of (Plain kinds.TickSkip) z (pos 0) 0 no_part)
tick_apart n z b = record { values = ap (λ (m : ℕ). content (Plain kinds.TickSkip) (num (pos m) ∷ [])) b; blank = refl }

pub command_apart : (cid : ℤ) (n : ℕ) (p : Part) (z : ℤ) → of_z w32 z ≡ n
    → TakenApart (items.ConsoleCommand cid n p) (taken_of (Plain kinds.ConsoleCommand) cid z 0 p)
command_apart cid n p z b =
    record { values = ap (λ (m : ℕ). content (Plain kinds.ConsoleCommand) (num cid ∷ num (pos m) ∷ bytes p ∷ [])) b; blank = refl }

-- ---- the client, and the kind's number

-- a record that has a client has it in the kind or in the first field
in_named : (f : Fields) (e : Extension) → tag_cid (Named e) (first_number (values_in (own_fields (Named e)) f)) ≡ tag_cid (Named e) f.first
unfolding payload_at has_client extension_row all
in_named f =
    each (λ e. tag_cid (Named e) (first_number (values_in (own_fields (Named e)) f)) ≡ tag_cid (Named e) f.first)
    (refl, (refl, (refl, (refl, (refl, (refl, (refl, (refl, (refl, (refl, (refl, (refl, (refl, (refl, (refl, (refl, (refl, (refl, (refl, (refl, tt))))))))))))))))))))

in_first : (t : Tag) (f : Fields) → tag_cid t (first_number (values_in (own_fields t) f)) ≡ tag_cid t f.first
in_first (Plain (kinds.PlayerDiff c)) f = refl
in_first (Plain kinds.Finish) f = refl
in_first (Plain kinds.TickSkip) f = refl
in_first (Plain (kinds.PlayerNew c)) f = refl
in_first (Plain (kinds.PlayerOld c)) f = refl
in_first (Plain kinds.InputDiff) f = refl
in_first (Plain kinds.InputNew) f = refl
in_first (Plain kinds.Message) f = refl
in_first (Plain kinds.Join) f = refl
in_first (Plain kinds.Drop) f = refl
in_first (Plain kinds.ConsoleCommand) f = refl
in_first (Plain kinds.Ex) f = refl
in_first (Named e) f = in_named f e
in_first Other f = refl

pub cid_told_law : (i : Item) (t : Taken) (g : Tag) → TakenApart i t → t.tag ≡ g → tag_cid g t.fields.first ≡ cid_of (item_of i)
cid_told_law i t g a e =
    ap (λ (x : Tag). tag_cid x t.fields.first) (sym e) ∙ sym (in_first t.tag t.fields) ∙ ap cid_of a.values

pub number_told : (i : Item) (t : Taken) (g : Tag) → TakenApart i t → t.tag ≡ g → tag_number g ≡ tag_number (item_of i).tag
number_told i t g a e = ap tag_number (sym e) ∙ ap (λ (x : Content Part). tag_number x.tag) a.values
