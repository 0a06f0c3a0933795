-- `going::good_rewind` meets its contract. Assumes nothing.
use mathlib.Core.Path.{◌∙◌}
use Rattle.back.specs.Board.{good_board}
use Rattle.back.specs.TeamBoard.{good_team_board}
use Rattle.going.proofs.good_rewind.Goals as goal

pub returns : goal.returns
unfolding good_board good_team_board
returns c =
    let g = c in
    let k = g in
    c.both-3.ensures
    ∙ rw (g.both-2.ensures, k.both.ensures, k.good_tick.ensures, k.good_lent-good.ensures, g.good_teams.ensures, c.good_counts.ensures)
