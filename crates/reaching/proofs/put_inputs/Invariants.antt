-- `reaching::put_inputs` meets its contract. The loop's invariant: the inputs of the clients below `c` were put. Assumes nothing.
use mathlib.Core.List.{[]}
use Rattle.record_writer.specs.steps.Puts.{PutsBytes}
use Rattle.state.specs.State.{entries_with}
use Rattle.choice.specs.Chosen.{input_for, joined, bytes_of}
use Rattle.reaching.proofs.put_inputs.Given as goal

abbrev pub invariant-loop-c : goal.invariant-loop-c
invariant-loop-c l =
    PutsBytes l.initial.out l.at (bytes_of (joined l.c (input_for (entries_with [] [] [] l.held l.inputs) (entries_with [] [] [] l.wheld l.winputs)))) l.next l.out
