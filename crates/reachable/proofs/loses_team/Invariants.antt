-- `reachable::loses_team` meets its contract. Assumes nothing.
use Prim.Native.Nat.{ℕ}
use mathlib.Core.Path.{◌≡◌}
use mathlib.Core.Bool.{Bool, true, cond}
use mathlib.Core.List.{List}
use lib.IntN.{ℤ}
use Rattle.state.specs.State.{every}
use Rattle.teams.specs.Teams.{has_team}
use Rattle.reachable.proofs.loses_team.Given as goal

-- a client with a team keeps one
abbrev pub keeps : List ℤ → List ℤ → ℕ → Bool
keeps t wanted c = cond (has_team t c) (has_team wanted c) true

abbrev pub invariant-loop-c : goal.invariant-loop-c
invariant-loop-c l = l.all ≡ every l.c (keeps l.teams l.wanted)
