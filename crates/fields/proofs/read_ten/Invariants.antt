-- The loop's invariant: the numbers so far stand in the array, and those still to come, after them, are the answer.
use Rattle.fields.proofs.Inputs.{Far}
use Rattle.fields.proofs.read_ten.Given as goal

abbrev pub invariant-loop-k : goal.invariant-loop-k
invariant-loop-k l = Far l.s l.at l.input l.next l.k
