-- `reachable::good_to` meets its contract. Assumes nothing.
use Rattle.back.specs.Board.{good_board}
use Rattle.back.specs.TeamBoard.{good_team_board}
use Rattle.reachable.proofs.good_to.Goals as goal

pub returns : goal.returns
unfolding good_team_board good_board
returns c =
    rw (
      c.both-2.ensures,
      c.good_teams.ensures,
      c.both.ensures,
      c.good_lent.ensures,
      c.good_tick.ensures,
    )
