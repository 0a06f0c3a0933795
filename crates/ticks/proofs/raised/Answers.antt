-- `ticks::raised` meets its contract. Assumes nothing.
use borrow.Author.Rules.{rules}
use mathlib.Core.Path.{◌≡◌}
use mir.Syntax.{w32}
use mir.Val.{to_z, of_z}
use Rattle.state.specs.Reading.{raising}
use Rattle.state.proofs.Numbers.{Kept}
use Rattle.ticks.proofs.raised.Goals as goal

pub returns : goal.returns
unfolding raising
returns c =
    let k : Kept c.args.s = search rules in
    let r = c.raised_to-largest in
    let l : to_z w32 (of_z w32 r.result) ≡ r.result = search rules in
    rw (k.tick, l, r.ensures, k.largest) at c.turn.ensures
