-- `reaching::put_players` meets its contract. The loop's invariant: the records of the clients below `c` were put. Assumes nothing.
use mathlib.Core.List.{[]}
use Rattle.record_writer.specs.steps.Puts.{PutsBytes}
use Rattle.state.specs.State.{entries_with}
use Rattle.choice.specs.Chosen.{player_for, joined, bytes_of}
use Rattle.reaching.proofs.put_players.Given as goal

abbrev pub invariant-loop-c : goal.invariant-loop-c
invariant-loop-c l =
    PutsBytes l.initial.out l.at (bytes_of (joined l.c (player_for (entries_with l.marks l.xs l.ys [] []) (entries_with l.wmarks l.wxs l.wys [] [])))) l.next l.out
