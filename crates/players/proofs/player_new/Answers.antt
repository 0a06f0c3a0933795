-- `players::player_new` meets its contract. Assumes nothing.
use mathlib.Core.Path.{◌∙◌}
use Rattle.state.specs.State.{with_entries, with_player}
use Rattle.state.proofs.Numbers.{back, bits_are}
use Rattle.players.proofs.Cases.{new_far, new_here, new_away}
use Rattle.players.proofs.player_new.Goals as goal

pub returns-then-mark-eq1 : goal.returns-then-mark-eq1
returns-then-mark-eq1 c =
    let st = c in
    let a = st.args in
    let m = a.m.now in
    let b = bits_are a.cid _ st.ranges.cid c.bits-bits.ensures in
    rw (back a.x st.ranges.x, back a.y st.ranges.y)
    (c.refuse-then-mark-eq1.ensures (with_entries (with_player m.entries c.bits-bits.result 1 a.x a.y) m)
    ∙ new_here a.s m a.cid a.x a.y a.used _ st.ranges.cid b c.if-bits-ge128.false c.if-mark-eq1.true)

pub returns : goal.returns
returns c =
    let st = c in
    let a = st.args in
    let m = a.m.now in
    let b = bits_are a.cid _ st.ranges.cid c.bits-bits.ensures in
    c.gave.ensures _
    ∙ rw (back a.cid st.ranges.cid, back a.x st.ranges.x, back a.y st.ranges.y)
    (new_away a.s m a.cid a.x a.y a.used _ st.ranges.cid b c.if-bits-ge128.false c.if-mark-eq1.false)

pub returns-then-bits-ge128 : goal.returns-then-bits-ge128
returns-then-bits-ge128 c =
    let st = c in let a = st.args in let m = a.m.now in
    c.refuse.ensures _
    ∙ new_far a.s m a.cid a.x a.y a.used _ _ st.ranges.cid c.bits-bits.ensures c.if-bits-ge128.true c.no_entry.ensures
