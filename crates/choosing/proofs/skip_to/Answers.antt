-- `choosing::skip_to` meets its contract. Assumes nothing.
use lib.Signed.{mag}
use Rattle.state.proofs.Numbers.{back}
use Rattle.choosing.proofs.Forms.{none_chosen}
use Rattle.choosing.proofs.Places.{skip_before, skip_back, skip_on, Later, later}
use Rattle.choosing.proofs.skip_to.Goals as goal
use Rattle.choosing.proofs.skip_to.Goals.{After-plain}

pub returns-then-t-lt0 : goal.returns-then-t-lt0
returns-then-t-lt0 c =
    let st = c in
    skip_before _ st.args.t st.args.u (rw (back st.args.t st.ranges.t) at c.if-t-lt0.true) none_chosen

pub returns-then-u-t : goal.returns-then-u-t
returns-then-u-t c =
    let st = c in
    let e = rw (back st.args.u st.ranges.u, back st.args.t st.ranges.t) at c.if-u-t.true in
    skip_back _ st.args.t st.args.u e none_chosen

rising : (c : After-plain) → Later c.args.t c.args.u
rising c =
    let st = c in
    later st.args.t st.args.u st.ranges.t st.ranges.u c.if-t-lt0.false c.if-u-t.false

pub returns : goal.returns
returns c =
    let l = rising c in
    let e = rw (l.from, l.to) at c.plain.ensures in
    let a = c.args in
    rw (l.start, l.end) (skip_on _ (mag a.t) (mag a.u) l.rises l.fits e)
