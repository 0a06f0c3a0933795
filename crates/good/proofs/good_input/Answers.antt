-- `good::good_input` meets its contract. Assumes nothing.
use borrow.Author.Tests.{ne_eqb}
use Rattle.state.specs.State.{ten_zeros}
use Rattle.good.proofs.good_input.Goals as goal

pub returns : goal.returns
unfolding ten_zeros
returns c =
    let mark = c.args.mark in
    rw (c.both.ensures, c.zeros.ensures, ne_eqb mark 1 c.if-mark-eq1.false)
