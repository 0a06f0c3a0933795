-- An event without the arguments that stand beside a command has the same row and the same twenty numbers. Assumes nothing.
use Rattle.std.specs.Prelude.{Option}
use mathlib.Core.Path.{◌≡◌, refl, ap}
use mathlib.Core.List.{List}
use lib.IntN.{ℤ, pos}
use Rattle.packer.specs.declared.Part.{Part}
use Rattle.item.specs.Records.{Content}
use Rattle.item.specs.Numbers.{tag_number}
use Rattle.item.specs.Own.{own_content}
use Rattle.state.specs.Reading.{Event}
use Rattle.state.specs.Slim.{slim}
use Rattle.teams.specs.Teams.{mark_for, number_for, on_joining}
use Rattle.teams.proofs.Joins.{joining_own}
use Rattle.rests.proofs.Slim.{slim_same}
use Rattle.step.proofs.Others.{cid_own}
use Rattle.rows.specs.Rows.{client_flag, client_or0, eight, plain_row, event_row, event_tens}

plain_own : (r : Content Part) (n p : ℤ) → plain_row (own_content r) n p ≡ plain_row r n p
plain_own r n p = ap (λ (c : Option ℤ). eight 7 n (tag_number r.tag) (client_flag c) (client_or0 c) p (pos 0)) (cid_own r)

pub slim_row : (e : Event) (m : Option ℤ) (n p : ℤ) → event_row (slim e) m n p ≡ event_row e m n p
slim_row e m n p =
    slim_same (λ (d : Event). event_row d m n p)
    (λ r i. on_joining (λ c t. eight 8 n c t (mark_for m) (number_for m) p) (plain_own r n p i) (joining_own r i)) e

pub slim_tens : (e : Event) (ten former : List ℤ) → event_tens (slim e) ten former ≡ event_tens e ten former
slim_tens e ten former = slim_same (λ (d : Event). event_tens d ten former) (λ r. refl) e
