-- `ticks::named` meets its contract. Assumes nothing.
use borrow.Author.Rules.{rules}
use mathlib.Core.Path.{◌≡◌}
use mir.Syntax.{w32}
use mir.Val.{to_z, of_z}
use Rattle.state.specs.Reading.{naming}
use Rattle.state.proofs.Numbers.{Kept}
use Rattle.ticks.proofs.named.Goals as goal

pub returns : goal.returns
unfolding naming
returns c =
    let a = c.args in
    let k : Kept a.s = search rules in
    let u : to_z w32 (of_z w32 a.cid) ≡ a.cid = search rules in
    let r = c.larger_of-largest in
    let l : to_z w32 (of_z w32 r.result) ≡ r.result = search rules in
    rw (k.tick, u, l, r.ensures, u, k.largest) at c.turn.ensures
