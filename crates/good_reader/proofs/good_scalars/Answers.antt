-- `good_reader::good_scalars` meets its contract. Assumes nothing.
use borrow.Author.Rules.{rules}
use mathlib.Core.Path.{◌≡◌}
use mir.Syntax.{w32}
use mir.Val.{to_z, of_z}
use Rattle.state.specs.State.{good_scalars}
use Rattle.good.proofs.Tests.{from_zero}
use Rattle.good_reader.proofs.good_scalars.Goals as goal

pub returns : goal.returns
unfolding good_scalars
returns c =
    let s = c.args.s in
    let t : to_z w32 (of_z w32 s.tick) ≡ s.tick = search rules in
    let l : to_z w32 (of_z w32 s.largest) ≡ s.largest = search rules in
    rw (c.both-2.ensures, c.both.ensures, c.good_pending.ensures, c.at_least-2.ensures, c.at_least.ensures, t, l, from_zero s.tick)
