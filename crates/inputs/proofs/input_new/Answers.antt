-- `inputs::input_new` meets its contract. Assumes nothing.
use mathlib.Core.Path.{◌∙◌}
use native.Mathlib.Omega.{arith}
use borrow.Author.Tests.{lt-ltb}
use Rattle.state.proofs.Numbers.{back, bits_are}
use Rattle.inputs.proofs.Cases.{new_far, new_here}
use Rattle.inputs.proofs.input_new.Goals as goal

pub returns : goal.returns
returns c =
    let st = c in
    let a = st.args in
    let m = a.m.now in
    let b = bits_are a.cid _ st.ranges.cid c.bits-bits.ensures in
    c.gave.ensures _
    ∙ rw (back a.cid st.ranges.cid, c.put_ten.ensures, c.take_ten-old.ensures, lt-ltb c.bits-bits.result 128 (omega arith))
    (new_here a.s m a.cid a.ns a.used _ st.ranges.cid b c.if-bits-ge128.false)

pub returns-then-bits-ge128 : goal.returns-then-bits-ge128
returns-then-bits-ge128 c =
    let st = c in let a = st.args in let m = a.m.now in
    c.refuse.ensures _ ∙ new_far a.s m a.cid a.ns a.used _ _ st.ranges.cid c.bits-bits.ensures c.if-bits-ge128.true c.no_entry.ensures
