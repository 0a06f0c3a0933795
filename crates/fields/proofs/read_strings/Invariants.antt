-- The loop's invariant: the array holds the strings so far, and the strings still to come, after those, are the answer.
use Rattle.fields.proofs.Arguments.{Far}
use Rattle.fields.proofs.read_strings.Given as goal

abbrev pub invariant-loop-count : goal.invariant-loop-count
invariant-loop-count l = Far l.s l.at l.n l.parts l.next l.count
