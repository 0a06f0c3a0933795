-- `alike::entries_in` meets its contract. Assumes nothing.
use borrow.Author.Rules.{rules}
use lib.IntN.{ℤ}
use mathlib.Core.Path.{◌≡◌}
use mir.Syntax.{w32}
use mir.Val.{to_z, of_z}
use Rattle.alike.specs.Alike.{entries_in}
use Rattle.alike.proofs.entries_in.Goals as goal

-- a signed local holds bits
abbrev back : ℤ → Type 0
back z = to_z w32 (of_z w32 z) ≡ z

pub returns : goal.returns
unfolding entries_in
returns c =
    let n = c.number-3 in
    let y = c.number-2 in
    let x = c.number in
    let n' : back n.result = search rules in
    let y' : back y.result = search rules in
    let x' : back x.result = search rules in
    rw (
      n',
      n.ensures,
      c.byte-4.ensures,
      c.with_player-player.ensures,
      y',
      x',
      y.ensures,
      x.ensures,
      c.byte-3.ensures,
      c.no_entries.ensures,
      c.size-k.ensures.0,
      c.byte-2.ensures,
      c.size-c.ensures.0,
      c.byte.ensures,
    ) at c.with_number.ensures
