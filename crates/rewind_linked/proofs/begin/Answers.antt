-- `rewind_linked::begin` meets its contract. Assumes nothing.
use borrow.Author.Rules.{rules}
use mathlib.Core.Path.{◌≡◌, sym, ◌∙◌}
use mathlib.Core.List.{List}
use lib.IntN.{ℤ}
use Rattle.back.proofs.Cases.{Same}
use Rattle.reel.specs.Reel.{reel_of}
use Rattle.rewinding.specs.Rewinding.{sought_in}
use Rattle.rewind_linked.proofs.Starts.{found, not_found}
use Rattle.rewind_linked.proofs.begin.Goals as goal
use Rattle.rewind_linked.proofs.begin.Goals.{After-refuse_start, After-team_board_of}

sought : (c : After-team_board_of) (inputs formers : List ℤ)
    → let a = c.args in sought_in a.reader (reel_of a.counts a.rows.now inputs formers) a.tick ≡ c.seek.result
sought c inputs formers = let t : Same c.args.tick = search rules in sym (rw t at (c.seek.ensures inputs formers))

pub returns-in-Ok : goal.returns-in-Ok
returns-in-Ok c =
    let k = c in
    let a = k.args in
    λ inputs formers.
    found a.reader (reel_of a.counts a.rows.now inputs formers) a.tick _ (sought k inputs formers ∙ c.in-Ok.is) _
    c.team_board_of.ensures

sought_2 : (c : After-refuse_start) (inputs formers : List ℤ)
    → let a = c.args in sought_in a.reader (reel_of a.counts a.rows.now inputs formers) a.tick ≡ c.seek.result
sought_2 c inputs formers = let t : Same c.args.tick = search rules in sym (rw t at (c.seek.ensures inputs formers))

pub returns-in-Err : goal.returns-in-Err
returns-in-Err c =
    let k = c in
    let a = k.args in
    λ inputs formers.
    rw c.refuse_start.ensures
    (not_found a.reader (reel_of a.counts a.rows.now inputs formers) a.tick _ (sought_2 k inputs formers ∙ c.in-Err.is))
