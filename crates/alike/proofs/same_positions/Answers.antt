-- `alike::same_positions` meets its contract. Assumes nothing.
use Rattle.alike.specs.Alike.{same_positions}
use Rattle.alike.proofs.same_positions.Goals as goal

pub returns : goal.returns
unfolding same_positions
returns c = cc
