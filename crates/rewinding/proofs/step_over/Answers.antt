-- `rewinding::step_over` meets its contract. Assumes nothing.
use borrow.Author.Tests.{le-ltb}
use Rattle.rewinding.specs.Walk.{walk}
use Rattle.rewinding.proofs.step_over.Goals as goal

pub returns-then-next-ge512 : goal.returns-then-next-ge512
unfolding walk
returns-then-next-ge512 c = let a = c.args in λ counts. rw (le-ltb a.next 512 c.if-next-ge512.true)
