-- `teams::good_teams` meets its contract. Assumes nothing.
use Prim.Native.Nat.{ℕ}
use mathlib.Core.Path.{◌≡◌}
use mathlib.Core.Bool.{Bool}
use mathlib.Core.List.{List}
use lib.IntN.{ℤ}
use Rattle.state.specs.State.{every}
use Rattle.teams.specs.Teams.{mark_of, number_of, good_team}
use Rattle.teams.proofs.good_teams.Given as goal

abbrev pub good_at : List ℤ → ℕ → Bool
good_at t c = good_team (mark_of t c) (number_of t c)

abbrev pub invariant-loop-i : goal.invariant-loop-i
invariant-loop-i l = l.good ≡ every l.i (good_at l.teams)
