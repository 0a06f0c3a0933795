-- `step::next_kind` meets its contract. Assumes nothing.
use Rattle.state.specs.Reading.{next_kind}
use Rattle.step.proofs.next_kind.Goals as goal

pub returns-in_default : goal.returns-in_default
unfolding next_kind
returns-in_default c = rw c.in_default.is c.read_kind.ensures

pub returns : goal.returns
unfolding next_kind
returns c = rw c.in-Some.is
