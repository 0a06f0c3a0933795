-- `teams::is_player_team` meets its contract: the identifiers differ. Assumes nothing.
use mathlib.Core.Path.{sym, ap}
use native.Mathlib.Omega.{arith}
use Rattle.kinds.specs.Magic.{same_bytes}
use Rattle.extensions.specs.Extensions.{id_at, extension_row}
use Rattle.teams.specs.Teams.{is_player_team}
use Rattle.teams.proofs.is_player_team.Goals as goal

pub returns-in-PlayerTeam : goal.returns-in-PlayerTeam
unfolding is_player_team same_bytes id_at extension_row
returns-in-PlayerTeam c = sym (ap is_player_team c.in-PlayerTeam.is)

pub returns-in_default : goal.returns-in_default
unfolding is_player_team same_bytes id_at extension_row
returns-in_default c = grind arith
