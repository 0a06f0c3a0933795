-- `board_lines::put_inputs` meets its contract. The loop's invariant: the lines of the clients below the next are put. Assumes nothing.
use mathlib.Core.List.{[]}
use Rattle.state.specs.State.{holds, entries_with}
use Rattle.board_lines.specs.BoardLines.{input_line}
use Rattle.board_lines.proofs.Below.{input_le, Through}
use Rattle.board_lines.proofs.put_inputs.Given as goal

abbrev pub invariant-loop-c : goal.invariant-loop-c
invariant-loop-c l =
    let e = entries_with [] [] [] l.held l.inputs in
    Through 138 (holds e) (input_line e) (input_le e) l.initial.out l.at l.c l.next l.out
