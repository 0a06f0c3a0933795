-- `alike::same_inputs` meets its contract. Assumes nothing.
use Rattle.alike.specs.Alike.{same_inputs}
use Rattle.alike.proofs.same_inputs.Goals as goal

pub returns : goal.returns
unfolding same_inputs
returns c = cc
