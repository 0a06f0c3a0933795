-- `listed::list_body` meets its contract. Assumes nothing.
use native.Mathlib.Omega.{arith}
use Rattle.listed.proofs.Bodies.{lists}
use Rattle.listed.proofs.list_body.Goals as goal

pub returns : goal.returns
returns c =
    let r = c in
    let st = r in
    let g = st.well_formed in
    let said = rw (r.empty-2.ensures, r.empty.ensures) at r.read_on-read.ensures in
    lists st.args.version st.args.body.now (omega (arith, g)) r.read_on-read.result said c.rank.result _ _ _ _ _ _ c.rank.ensures
