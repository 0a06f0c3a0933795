-- `back::board_of` meets its contract. Assumes nothing.
use mathlib.Core.Path.{◌≡◌}
use borrow.Author.Rules.{rules}
use mir.Syntax.{w32}
use mir.Val.{to_z, of_z}
use Rattle.back.specs.Board.{board_of}
use Rattle.back.proofs.board_of.Goals as goal

pub returns-then-scalars : goal.returns-then-scalars
unfolding board_of
returns-then-scalars c =
    let s = c.args.reader.scalars in
    let t : to_z w32 (of_z w32 s.tick) ≡ s.tick = search rules in
    rw (c.if-scalars.true, t)

pub returns : goal.returns
unfolding board_of
returns c = rw c.if-scalars.false
