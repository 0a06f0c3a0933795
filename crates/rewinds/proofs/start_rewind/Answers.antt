-- `rewinds::start_rewind` meets its contract. Assumes nothing.
use borrow.Author.Rules.{rules}
use mathlib.Core.Path.{◌≡◌, sym, ◌∙◌}
use Rattle.back.proofs.Cases.{Same}
use Rattle.rewinding.specs.Rewinding.{sought_in}
use Rattle.going.proofs.Cases.{started, refused}
use Rattle.rewinds.proofs.start_rewind.Goals as goal
use Rattle.rewinds.proofs.start_rewind.Goals.{After-no_start, After-team_board_of}

tick_same : (c : After-team_board_of) → Same c.args.tick
tick_same c = search rules

sought : (c : After-team_board_of) → let a = c.args in c.seek.result ≡ sought_in a.reader a.reel a.tick
sought c = let a = c.args in rw (tick_same c) at (c.seek.ensures a.reel.inputs a.reel.formers)

pub returns-in-Ok : goal.returns-in-Ok
returns-in-Ok c =
    let k = c in
    let a = k.args in
    rw (tick_same k) (started a.reader a.reel a.tick _ (sym c.in-Ok.is ∙ sought k) _ c.team_board_of.ensures)

tick_same_2 : (c : After-no_start) → Same c.args.tick
tick_same_2 c = search rules

sought_2 : (c : After-no_start) → let a = c.args in c.seek.result ≡ sought_in a.reader a.reel a.tick
sought_2 c = let a = c.args in rw (tick_same_2 c) at (c.seek.ensures a.reel.inputs a.reel.formers)

pub returns-in-Err : goal.returns-in-Err
returns-in-Err c =
    let k = c in
    let a = k.args in
    c.no_start.ensures ∙ refused a.reader a.reel a.tick _ (sym c.in-Err.is ∙ sought_2 k)
