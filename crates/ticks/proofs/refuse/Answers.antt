-- `ticks::refuse` meets its contract. Assumes nothing.
use Rattle.state.specs.Reading.{refusal_step}
use Rattle.ticks.proofs.refuse.Goals as goal

pub returns : goal.returns
unfolding refusal_step
returns c m = rw c.closed-scalars.ensures
