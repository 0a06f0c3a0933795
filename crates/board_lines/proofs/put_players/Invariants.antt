-- `board_lines::put_players` meets its contract. The loop's invariant: the lines of the clients below the next are put. Assumes nothing.
use mathlib.Core.List.{[]}
use Rattle.state.specs.State.{present, entries_with}
use Rattle.board_lines.specs.BoardLines.{player_line}
use Rattle.board_lines.proofs.Below.{player_le, Through}
use Rattle.board_lines.proofs.put_players.Given as goal

abbrev pub invariant-loop-c : goal.invariant-loop-c
invariant-loop-c l =
    let e = entries_with l.marks l.xs l.ys [] [] in
    Through 43 (present e) (player_line e) (player_le e) l.initial.out l.at l.c l.next l.out
