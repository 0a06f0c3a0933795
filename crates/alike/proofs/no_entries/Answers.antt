-- `alike::no_entries` meets its contract. Assumes nothing.
use Rattle.state.specs.State.{empty_reader}
use Rattle.alike.proofs.no_entries.Goals as goal

pub returns : goal.returns
unfolding empty_reader
returns c = rw c.empty-reader.ensures
