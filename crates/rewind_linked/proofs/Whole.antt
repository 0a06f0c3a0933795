-- A body read whole from an empty reader, with a reel without rows: nothing refuses it before the first call. Assumes nothing.
use Prim.Native.Nat.{ℕ}
use mathlib.Core.Path.{◌≡◌, refl}
use mathlib.Core.Bool.{Bool, false}
use mathlib.Core.List.{List}
use lib.IntN.{ℤ}
use Rattle.kinds.specs.declared.Version.{Version}
use Rattle.state.specs.State.{empty_reader}
use Rattle.state.specs.Reading.{is_closed}
use Rattle.state.proofs.Theorems.{empty_sound}
use Rattle.teams.specs.Teams.{no_teams, good_team_reader, empty_team_reader}
use Rattle.teams.proofs.Theorems.{no_teams_sound}
use Rattle.calls.specs.Along.{calls}
use Rattle.many.specs.Many.{many_calls}
use Rattle.reeling.specs.Reeling.{kept_calls}
use Rattle.rewind_linked.specs.Linked.{no_rows}

empty_open : (v : Version) → is_closed (empty_reader v).scalars.standing ≡ false
unfolding empty_reader
empty_open v = refl

pub read_whole : (v : Version) (rows inputs formers : List ℤ) (k : ℕ) (w : List ℕ) (last : Bool)
    → kept_calls k (empty_team_reader v) (no_rows rows inputs formers) w last ≡ calls k (empty_reader v) w last
unfolding many_calls empty_team_reader good_team_reader
read_whole v rows inputs formers k w last = rw ((empty_sound v).good, no_teams_sound.good, empty_open v)

pub empty_teams : (v : Version) → (empty_team_reader v).teams ≡ no_teams
unfolding empty_team_reader
empty_teams v = refl
