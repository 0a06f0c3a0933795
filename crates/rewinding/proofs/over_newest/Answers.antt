-- `rewinding::over_newest` meets its contract. Assumes nothing.
use mathlib.Core.Path.{ap, ◌∙◌}
use borrow.Author.Tests.{not-true, not-false}
use Rattle.state.proofs.Numbers.{picks_first, picks_second}
use Rattle.reel.specs.Reel.{reel_of}
use Rattle.rewinding.specs.Rewinding.{copy_of, rewound_of}
use Rattle.rewinding.specs.Walk.{Walked}
use Rattle.rewinding.proofs.Walks.{walk_over}
use Rattle.rewinding.proofs.over_newest.Goals as goal

-- what is left of the board is what stepping over the rows does
pub returns-then-not-off : goal.returns-then-not-off
returns-then-not-off c =
    let a = c.args in
    c.refuse.ensures
    ∙ ap rewound_of
    (picks_second c.walk_over-walked.result.off.fits _ _ (not-true _ c.if-not-off.true)
    ∙ ap copy_of
    (ap (λ (w : Walked). w.taken) (c.walk_over-walked.ensures a.counts)
    ∙ walk_over (reel_of a.counts a.rows.now a.tens.now a.formers.now) a.n a.counts.next 0 a.board))

pub returns : goal.returns
returns c =
    let a = c.args in
    ap rewound_of
    (picks_first c.walk_over-walked.result.off.fits _ _ (not-false _ c.if-not-off.false)
    ∙ ap copy_of
    (ap (λ (w : Walked). w.taken) (c.walk_over-walked.ensures a.counts)
    ∙ walk_over (reel_of a.counts a.rows.now a.tens.now a.formers.now) a.n a.counts.next 0 a.board))
