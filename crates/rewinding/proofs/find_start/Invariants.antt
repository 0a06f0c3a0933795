-- `rewinding::find_start` meets its contract. Assumes nothing.
use Prim.Native.Nat.{◌-◌, ◌<◌}
use mathlib.Core.Path.{◌≡◌}
use mathlib.Core.List.{List}
use lib.IntN.{ℤ}
use Rattle.reel.specs.Reel.{reel_of, rows_before, rows_of}
use Rattle.rewinding.specs.Rewinding.{newer_than}
use Rattle.rewinding.proofs.Search.{shift}
use Rattle.rewinding.proofs.find_start.Given as goal

-- n rows are passed, and what is found is among those before a place
abbrev pub invariant-loop-n : goal.invariant-loop-n
invariant-loop-n l =
    (l.place < 512)
    × ((inputs formers : List ℤ)
    → newer_than l.tick (rows_of (reel_of l.fn.counts l.rows inputs formers))
    ≡ shift l.n (newer_than l.tick (rows_before (reel_of l.fn.counts l.rows inputs formers) (l.fn.counts.count - l.n) l.place)))
