-- `reaching::put_teams` meets its contract. The loop's invariant: the teams of the clients below `c` were put. Assumes nothing.
use Rattle.record_writer.specs.steps.Puts.{PutsBytes}
use Rattle.choice.specs.Chosen.{team_for, joined, bytes_of}
use Rattle.reaching.proofs.put_teams.Given as goal

abbrev pub invariant-loop-c : goal.invariant-loop-c
invariant-loop-c l = PutsBytes l.initial.out l.at (bytes_of (joined l.c (team_for l.teams l.wteams))) l.next l.out
