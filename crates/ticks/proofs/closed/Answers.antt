-- `ticks::closed` meets its contract. Assumes nothing.
use borrow.Author.Rules.{rules}
use Rattle.state.specs.Reading.{closing}
use Rattle.state.proofs.Numbers.{Kept}
use Rattle.ticks.proofs.closed.Goals as goal

pub returns : goal.returns
unfolding closing
returns c =
    let k : Kept c.args.s = search rules in
    rw (k.tick, k.largest) at c.turn.ensures
