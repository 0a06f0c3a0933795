-- `choosing::start_if` meets its contract. Assumes nothing.
use Rattle.choosing.proofs.Forms.{none_chosen}
use Rattle.choosing.proofs.Places.{start_none, start_one}
use Rattle.choosing.proofs.start_if.Goals as goal

pub returns-then-started-changed : goal.returns-then-started-changed
returns-then-started-changed c = let a = c.args in start_none _ a.started a.changed c.if-started-changed.true none_chosen

pub returns : goal.returns
returns c = let a = c.args in start_one _ a.started a.changed c.if-started-changed.false c.plain.ensures
