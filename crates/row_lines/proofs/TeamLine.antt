-- The line of a PlayerTeam is that of a record with its client. Assumes nothing.
use Rattle.std.specs.Prelude.{Some, None}
use Prim.Native.Nat.{ℕ}
use mathlib.Core.Path.{◌≡◌, refl, ap}
use mathlib.Core.Bool.{Bool, true, false, cond}
use mathlib.Core.List.{List}
use native.Mathlib.Omega.{arith}
use lib.IntN.{ℤ, negsuc}
use Rattle.packer.specs.declared.Part.{Part}
use Rattle.fields.specs.Fields.{Value}
use Rattle.kinds.specs.Magic.{same_bytes}
use Rattle.extensions.specs.Extensions.{all, id_at, extension_row, has_client}
use Rattle.extensions.specs.declared.Extension.{Extension}
use Rattle.extensions.proofs.Each.{tested}
use Rattle.item.specs.Records.{Content, content}
use Rattle.item.specs.Contents.{cid_of}
use Rattle.item.specs.Numbers.{tag_number}
use Rattle.item.specs.declared.Tag.{Tag}
use Rattle.item.specs.declared.Tag.TheVariants.{Plain, Named, Other}
use Rattle.teams.specs.Teams.{joins, nobody, is_player_team, joining_in}
use Rattle.lines.specs.Lines.{record_line}

has_client_law : (e : Extension) → is_player_team e ≡ true → has_client e ≡ true
unfolding is_player_team same_bytes id_at has_client extension_row all
has_client_law e h = rw h at (tested (λ x. cond (is_player_team x) (has_client x) true) refl e)

never : {C : Type 0} {c n : ℤ} → nobody ≡ joins c n → C
never e = let z : ◌≡◌ {A = ℕ} 0 1 = cc in absurd (omega arith)

named : (e : Extension) (z y c n : ℤ) (b : Bool) → is_player_team e ≡ b → cond b (joins z y) nobody ≡ joins c n → Some c ≡ cond (has_client e) (Some z) None
named e z y c n true h j = rw (has_client_law e h) (cc)
named e z y c n false h j = never j

by_tag_law : (vs : List (Value Part)) (c n : ℤ) (t : Tag) → joining_in (content t vs) ≡ joins c n
    → record_line (negsuc 10) (Some c) ≡ record_line (tag_number t) (cid_of (content t vs))
by_tag_law vs c n (Plain k) j = never j
by_tag_law vs c n (Named e) j = ap (record_line (negsuc 10)) (named e _ _ c n (is_player_team e) refl j)
by_tag_law vs c n Other j = never j

pub team_line_law : (r : Content Part) (c n : ℤ) → joining_in r ≡ joins c n → record_line (negsuc 10) (Some c) ≡ record_line (tag_number r.tag) (cid_of r)
team_line_law r c n j = by_tag_law r.values c n r.tag j
