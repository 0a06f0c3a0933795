-- `ticks::run_out` meets its contract. Assumes nothing.
use Rattle.state.specs.Reading.{out_of}
use Rattle.ticks.proofs.run_out.Goals as goal

pub returns-then-last : goal.returns-then-last
unfolding out_of
returns-then-last c m = rw c.if-last.true (c.refuse.ensures m)

pub returns : goal.returns
unfolding out_of
returns c m = rw c.if-last.false
