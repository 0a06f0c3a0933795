-- `reachable::differs_behind` meets its contract. Assumes nothing.
use Rattle.std.specs.Prelude.{Option}
use Prim.Native.Nat.{ℕ}
use mathlib.Core.Path.{◌≡◌}
use mathlib.Core.Bool.{Bool, true, cond}
use mathlib.Core.List.{List, []}
use lib.IntN.{ℤ, pos}
use Rattle.state.specs.State.{entries_with, every}
use Rattle.state.specs.Reading.{at_or_below}
use Rattle.state.specs.declared.Entries.{Entries}
use Rattle.choice.specs.Chosen.{player_of, same_player}
use Rattle.reachable.proofs.differs_behind.Given as goal

-- entries with these players
abbrev pub placed : List ℕ → List ℤ → List ℤ → Entries
placed marks xs ys = entries_with marks xs ys [] []

-- a client at or below the remembered one stays
abbrev pub stays : Option ℤ → Entries → Entries → ℕ → Bool
stays p e w c = cond (at_or_below (pos c) p) (same_player (player_of e c) (player_of w c)) true

abbrev pub invariant-loop-c : goal.invariant-loop-c
invariant-loop-c l =
    l.all ≡ every l.c (stays l.remembered (placed l.marks l.xs l.ys) (placed l.wmarks l.wxs l.wys))
