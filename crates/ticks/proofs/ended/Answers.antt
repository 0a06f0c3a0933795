-- `ticks::ended` meets its contract. Assumes nothing.
use Rattle.state.specs.Reading.{ending}
use Rattle.state.proofs.Numbers.{back}
use Rattle.ticks.proofs.ended.Goals as goal

pub returns : goal.returns
unfolding ending
returns c =
    let st = c in rw (back st.args.tick st.ranges.tick) at c.ticked.ensures
