-- `state::Reader::empty` meets its contract. Assumes nothing.
use mathlib.Core.Path.{refl}
use Rattle.state.specs.State.{no_entries, empty_reader}
use Rattle.state.proofs.Reader.empty.Goals as goal

pub returns : goal.returns
unfolding empty_reader no_entries
returns c = refl
