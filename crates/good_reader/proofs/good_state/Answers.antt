-- `good_reader::good_state` meets its contract. Assumes nothing.
use Rattle.state.specs.State.{good_reader}
use Rattle.good_reader.proofs.good_state.Goals as goal

pub returns : goal.returns
unfolding good_reader
returns c = rw (c.both.ensures, c.good_lent.ensures, c.good_scalars.ensures)
