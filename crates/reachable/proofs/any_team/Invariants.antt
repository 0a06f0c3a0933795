-- `reachable::any_team` meets its contract. Assumes nothing.
use Prim.Native.Nat.{ℕ}
use mathlib.Core.Path.{◌≡◌}
use mathlib.Core.Bool.{Bool, not}
use mathlib.Core.List.{List}
use lib.IntN.{ℤ}
use Rattle.state.specs.State.{every}
use Rattle.teams.specs.Teams.{has_team}
use Rattle.reachable.proofs.any_team.Given as goal

abbrev pub without : List ℤ → ℕ → Bool
without t c = not (has_team t c)

abbrev pub invariant-loop-c : goal.invariant-loop-c
invariant-loop-c l = l.none ≡ every l.c (without l.teams)
