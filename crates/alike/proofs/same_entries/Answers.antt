-- `alike::same_entries` meets its contract. Assumes nothing.
use Rattle.alike.specs.Alike.{same_entries}
use Rattle.alike.proofs.same_entries.Goals as goal

pub returns : goal.returns
unfolding same_entries
returns c = cc
