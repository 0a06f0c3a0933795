-- Each record of the choice, as the code makes it: what it means, and in which versions it can be written. Assumes nothing.
use Rattle.std.specs.Prelude.{Option, Some, None}
use Prim.Native.Nat.{ℕ, ◌≤◌}
use mathlib.Core.Path.{◌≡◌, refl, ◌∙◌, ap}
use mathlib.Core.Bool.{true}
use mathlib.Core.List.{List, [], ◌∷◌, ◌++◌, map}
use native.Mathlib.Omega.{arith}
use lib.ListN.{length, length-append}
use lib.IntN.{ℤ, pos, negsuc}
use borrow.Author.Tests.{le-leb}
use Rattle.varint.specs.Written.{canonical}
use Rattle.varint.proofs.Writing.{canonical_le}
use Rattle.fields.specs.Fields.{int, num, mean}
use Rattle.fields.specs.Writing.{write_fields}
use Rattle.fields.specs.Views.{zeros, args_with}
use Rattle.packer.specs.Parts.{part, shown}
use Rattle.packer.specs.Texts.{no_zero}
use Rattle.kinds.specs.Kinds.{has_ex}
use Rattle.kinds.specs.declared.Kind.TheVariants as kinds
use Rattle.kinds.specs.declared.Version.{Version}
use Rattle.extensions.specs.Extensions.{extension_row, payload_at}
use Rattle.item.specs.Contents.{record_with, no_args}
use Rattle.item.specs.declared.Item.{Item}
use Rattle.item.specs.declared.Record.{Record}
use Rattle.item.specs.declared.Item.TheVariants as items
use Rattle.written.specs.Form.{has_form, content_writable}
use Rattle.written.specs.Unwritable.{record_writable}
use Rattle.written.proofs.Unwritable.{writable_is_form, ints_inside, all_of}
use Rattle.choice.specs.Chosen.{of_numbers, team_record, empty_command}
use Rattle.choosing.specs.Choice.{ChoosesIn, Chooses}

abbrev pub alone : Item → Option Record
alone i = Some (record_with i (zeros 10) no_args)

pub none_chosen : Chooses [] None
none_chosen = λ v. record { is = refl; writable = refl }

pub diff_chosen : (c : ℕ) (dx dy : ℤ) → Chooses (of_numbers (kinds.PlayerDiff (pos c)) (dx ∷ dy ∷ []) ∷ []) (alone (items.PlayerDiff (pos c) dx dy))
unfolding record_writable
diff_chosen c dx dy = λ v. record { is = refl; writable = refl }

pub new_chosen : (c : ℕ) (x y : ℤ) → Chooses (of_numbers (kinds.PlayerNew (pos c)) (x ∷ y ∷ []) ∷ []) (alone (items.PlayerNew (pos c) x y))
unfolding record_writable
new_chosen c x y = λ v. record { is = refl; writable = refl }

pub old_chosen : (c : ℕ) → Chooses (of_numbers (kinds.PlayerOld (pos c)) [] ∷ []) (alone (items.PlayerOld (pos c)))
unfolding record_writable
old_chosen c = λ v. record { is = refl; writable = refl }

pub skip_chosen : (n : ℕ) → n ≤ 2147483647 → Chooses (of_numbers kinds.TickSkip (pos n ∷ []) ∷ []) (alone (items.TickSkip n))
unfolding record_writable
skip_chosen n h = λ v. record { is = refl; writable = rw (le-leb n 2147483647 h) }

pub command_chosen : Chooses (empty_command ∷ []) (alone (items.ConsoleCommand (negsuc 0) 0 (part 0 0)))
unfolding record_writable args_with shown no_zero
command_chosen = λ v. record { is = refl; writable = refl }

-- in a version with extensions
two_numbers : (a b : ℤ) → length (write_fields (int ∷ int ∷ []) (num a ∷ num b ∷ [])) ≤ 2147483647
two_numbers a b =
    omega (arith, length-append (canonical a) (canonical b ++ []), length-append (canonical b) [], canonical_le a, canonical_le b)

pub team_chosen : (v : Version) → has_ex v ≡ true → (c : ℕ) (n : ℤ) → ChoosesIn v (team_record c (Some n)) (alone (items.PlayerTeam (pos c) n))
unfolding has_form content_writable payload_at extension_row
team_chosen v h c n =
    record {
      is = refl;
      writable =
          writable_is_form v [] (record_with (items.PlayerTeam (pos c) n) (zeros 10) no_args)
          ∙ rw (h, le-leb (length (write_fields (int ∷ int ∷ []) (num (pos c) ∷ num n ∷ []))) 2147483647 (two_numbers (pos c) n));
    }

-- ---- with ten numbers beside it

numbers_mean : (zs : List ℤ) → map (mean []) (map num zs) ≡ map num zs
numbers_mean [] = refl
numbers_mean (z ∷ zs) = ap (λ vs. num z ∷ vs) (numbers_mean zs)

pub input_chosen : (c : ℕ) (ten : List ℤ)
    → Chooses (of_numbers kinds.InputNew (pos c ∷ ten) ∷ []) (Some (record_with (items.InputNew (pos c)) ten no_args))
unfolding has_form content_writable
input_chosen c ten v =
    record {
      is = rw (numbers_mean ten);
      writable = writable_is_form v [] (record_with (items.InputNew (pos c)) ten no_args) ∙ rw (ints_inside [] ten, all_of 10 (map (mean []) (map num ten)));
    }
