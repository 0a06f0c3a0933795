-- `reachable::good_from` meets its contract. Assumes nothing.
use Rattle.teams.specs.Teams.{good_team_reader}
use Rattle.reachable.proofs.good_from.Goals as goal

pub returns : goal.returns
unfolding good_team_reader
returns c = rw (c.both.ensures, c.good_teams.ensures, c.good_state.ensures)
