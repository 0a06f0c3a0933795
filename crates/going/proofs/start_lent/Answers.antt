-- `going::start_lent` meets its contract. Assumes nothing.
use borrow.Author.Rules.{rules}
use mathlib.Core.Path.{◌≡◌, sym, ◌∙◌}
use Rattle.back.proofs.Cases.{Same}
use Rattle.reel.specs.Reel.{reel_of}
use Rattle.rewinding.specs.Rewinding.{sought_in}
use Rattle.going.proofs.Cases.{started_is, refused_is}
use Rattle.going.proofs.start_lent.Goals as goal
use Rattle.going.proofs.start_lent.Goals.{After-refuse_start, After-started}

tick_same : (c : After-started) → Same c.args.tick
tick_same c = search rules

sought : (c : After-started) → let a = c.args in c.seek.result ≡ sought_in a.reader (reel_of a.counts a.rows.now a.inputs.now a.formers.now) a.tick
sought c = let a = c.args in rw (tick_same c) at (c.seek.ensures a.inputs.now a.formers.now)

pub returns-in-Ok : goal.returns-in-Ok
returns-in-Ok c =
    let k = c in
    let a = k.args in
    let e = sym c.in-Ok.is ∙ sought k in
    started_is a.reader (reel_of a.counts a.rows.now a.inputs.now a.formers.now) a.tick _ e _ c.team_board_of.ensures _
    (rw (tick_same k) at c.started.ensures) _

tick_same_2 : (c : After-refuse_start) → Same c.args.tick
tick_same_2 c = search rules

sought_2 : (c : After-refuse_start) → let a = c.args in c.seek.result ≡ sought_in a.reader (reel_of a.counts a.rows.now a.inputs.now a.formers.now) a.tick
sought_2 c = let a = c.args in rw (tick_same_2 c) at (c.seek.ensures a.inputs.now a.formers.now)

pub returns-in-Err : goal.returns-in-Err
returns-in-Err c =
    let k = c in
    let a = k.args in
    let e = sym c.in-Err.is ∙ sought_2 k in
    refused_is a.reader (reel_of a.counts a.rows.now a.inputs.now a.formers.now) a.tick _ e _ c.refuse_start.ensures _
