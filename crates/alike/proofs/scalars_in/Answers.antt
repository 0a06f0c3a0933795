-- `alike::scalars_in` meets its contract. Assumes nothing.
use borrow.Author.Rules.{rules}
use lib.IntN.{ℤ}
use mathlib.Core.Path.{◌≡◌}
use mir.Syntax.{w32}
use mir.Val.{to_z, of_z}
use Rattle.alike.specs.Alike.{scalars_in}
use Rattle.alike.proofs.scalars_in.Goals as goal

-- a signed local holds bits
abbrev back : ℤ → Type 0
back z = to_z w32 (of_z w32 z) ≡ z

pub returns : goal.returns
unfolding scalars_in
returns c =
    let tick = c.number in
    let largest = c.number-2 in
    let client = c.number-3 in
    let x : back tick.result = search rules in
    let y : back largest.result = search rules in
    let z : back client.result = search rules in
    rw (
      x,
      y,
      c.standing_in.ensures,
      c.byte-4.ensures,
      c.pending_of.ensures,
      z,
      client.ensures,
      c.byte-3.ensures,
      largest.ensures,
      c.same_mark.ensures,
      c.byte-2.ensures,
      tick.ensures,
      c.version_in.ensures,
      c.byte.ensures,
    )
