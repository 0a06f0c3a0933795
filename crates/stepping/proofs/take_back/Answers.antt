-- `stepping::take_back` meets its contract. Assumes nothing.
use mathlib.Core.Path.{◌≡◌, ap, ◌∙◌}
use Rattle.back.specs.TeamBoard.{good_team_board, stepped_from}
use Rattle.back.specs.Undo.{undone, former_in}
use Rattle.stepping.proofs.Cases.{handed, good_is, bad, good}
use Rattle.stepping.proofs.take_back.Goals as goal
use Rattle.stepping.proofs.take_back.Goals.{After-refuse, After-stepped}

-- the test of the board
board_good : (c : After-refuse) → c.both-2.result ≡ good_team_board c.args.board
board_good c =
    let k = c in
    good_is _ _ _ _ _ _ k.good_tick.ensures k.good_lent-good.ensures k.both.ensures c.good_teams.ensures c.both-2.ensures

pub returns-then-not-both : goal.returns-then-not-both
returns-then-not-both c =
    let k = c in
    let a = k.args in
    c.refuse.ensures
    ∙ ap (stepped_from a.board)
    (bad a.board (undone a.undo) a.input a.former (former_in a.undo) _ (board_good k) c.if-not-both.true)

-- the test of the board
board_good_2 : (c : After-stepped) → c.both-2.result ≡ good_team_board c.args.board
board_good_2 c =
    let k = c in
    good_is _ _ _ _ _ _ k.good_tick.ensures k.good_lent-good.ensures k.both.ensures c.good_teams.ensures c.both-2.ensures

pub returns : goal.returns
returns c =
    let k = c in
    let a = k.args in
    c.stepped.ensures
    ∙ ap handed c.take_off_team-off.ensures
    ∙ good a.board (undone a.undo) a.input a.former (former_in a.undo) _ (board_good_2 k) k.if-not-both.false
