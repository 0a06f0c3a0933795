-- `reachable::loses_input` meets its contract. Assumes nothing.
use Prim.Native.Nat.{ℕ}
use mathlib.Core.Path.{◌≡◌}
use mathlib.Core.Bool.{Bool, true, cond}
use mathlib.Core.List.{List, []}
use Rattle.state.specs.State.{entries_with, holds, every}
use Rattle.state.specs.declared.Entries.{Entries}
use Rattle.reachable.proofs.loses_input.Given as goal

-- entries with these input marks
abbrev pub marked : List ℕ → Entries
marked held = entries_with [] [] [] held []

-- a client with inputs keeps some
abbrev pub keeps : List ℕ → List ℕ → ℕ → Bool
keeps held wanted c = cond (holds (marked held) c) (holds (marked wanted) c) true

abbrev pub invariant-loop-c : goal.invariant-loop-c
invariant-loop-c l = l.all ≡ every l.c (keeps l.held l.wanted)
