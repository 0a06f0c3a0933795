-- `listing::list_good` meets its contract. Assumes nothing.
use mathlib.Core.Path.{ap, ◌∙◌}
use borrow.Author.Tests.{not-false}
use Rattle.state.specs.State.{reader_with}
use Rattle.state.specs.declared.Memory.{Memory}
use Rattle.state.proofs.Numbers.{picks_first}
use Rattle.listing.specs.Listing.{whole_run, list_run}
use Rattle.listing.proofs.list_good.Goals as goal

pub returns : goal.returns
returns c =
    let a = c.args in
    let r = c.list_calls-r in
    c.answer_of.ensures
    ∙ picks_first r.result.fits _ _ (not-false r.result.fits c.if-not-r.false)
    ∙ r.ensures
    ∙ ap
    (λ (m : Memory).
    let reader = reader_with a.reader.scalars m.entries in list_run a.list reader (whole_run reader a.window.now a.last))
    c.of-m.ensures
