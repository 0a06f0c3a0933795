-- `ticks::started` meets its contract. Assumes nothing.
use borrow.Author.Rules.{rules}
use Rattle.state.specs.Reading.{starting}
use Rattle.state.proofs.Numbers.{Kept}
use Rattle.ticks.proofs.started.Goals as goal

pub returns : goal.returns
unfolding starting
returns c =
    let k : Kept c.args.s = search rules in rw k.tick at c.ticked.ensures
