-- `ticks::skipped_to` meets its contract. Assumes nothing.
use Rattle.state.specs.Reading.{skipping}
use Rattle.state.proofs.Numbers.{back}
use Rattle.ticks.proofs.skipped_to.Goals as goal

pub returns : goal.returns
unfolding skipping
returns c =
    let st = c in rw (back st.args.tick st.ranges.tick) at c.ticked.ensures
