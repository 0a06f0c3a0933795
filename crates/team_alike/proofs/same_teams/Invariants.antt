-- `team_alike::same_teams` meets its contract. Assumes nothing.
use mathlib.Core.Path.{◌≡◌}
use Rattle.state.specs.State.{every}
use Rattle.alike.specs.Alike.{same_number}
use Rattle.team_alike.proofs.same_teams.Given as goal

abbrev pub invariant-loop-i : goal.invariant-loop-i
invariant-loop-i l = l.all ≡ every l.i (same_number l.a l.b)
