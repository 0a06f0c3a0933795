-- What the code hands back of one place in the choice: a record, or none.
use Rattle.std.specs.Prelude.{◌≡◌, Bool, true, List, [], ◌∷◌, Option, Some, None, ℤ}
use Rattle.kinds.specs.Kinds.{has_ex}
use Rattle.kinds.specs.declared.Version.{Version}
use Rattle.item.specs.Records.{meaning}
use Rattle.item.specs.Contents.{record_of}
use Rattle.item.specs.declared.Record.{Record}
use Rattle.written.specs.Unwritable.{record_writable}
use Rattle.choice.specs.Chosen.{Rec}

-- its parts lie in no bytes
abbrev pub choice_is : Option Record → List Rec
choice_is (Some r) = meaning [] (record_of r) ∷ []
choice_is None = []

abbrev pub can_write : Version → Option Record → Bool
can_write v (Some r) = record_writable v [] r
can_write v None = true

-- the choice is these records, at most one, and can be written in this version
pub record ChoosesIn (v : Version) (cs : List Rec) (c : Option Record) : Type 0 where
  pub is : choice_is c ≡ cs
  pub writable : can_write v c ≡ true

-- in either version
abbrev pub Chooses : List Rec → Option Record → Type 0
Chooses cs c = (v : Version) → ChoosesIn v cs c

-- a team is wanted only where there are extensions; no team anywhere
abbrev pub team_in : Version → Option ℤ → Bool
team_in v (Some n) = has_ex v
team_in v None = true
