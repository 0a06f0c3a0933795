-- `good::good_sixteen` meets its contract. Assumes nothing.
use mathlib.Core.Path.{sym, ◌∙◌}
use Rattle.good.proofs.Blocks.{tens, no_marks}
use Rattle.good.proofs.good_sixteen.Goals as goal

pub returns-then-unmarked : goal.returns-then-unmarked
returns-then-unmarked c =
    let a = c.args in
    c.zeros.ensures
    ∙ tens a.inputs.now a.c 16
    ∙ no_marks a.held.now a.inputs.now a.c 16 (sym c.unmarked.ensures ∙ c.if-unmarked.true)
