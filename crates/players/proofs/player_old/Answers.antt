-- `players::player_old` meets its contract. Assumes nothing.
use mathlib.Core.Path.{◌∙◌}
use lib.ListN.{get_or}
use lib.IntN.{pos}
use Rattle.state.proofs.Numbers.{back, bits_are, element}
use Rattle.players.proofs.Cases.{old_far, old_away, old_here}
use Rattle.players.proofs.player_old.Goals as goal

pub returns-then-m-i-ne1 : goal.returns-then-m-i-ne1
returns-then-m-i-ne1 c =
    let st = c in
    let a = st.args in
    let m = a.m.now in
    let b = bits_are a.cid _ st.ranges.cid c.bits-bits.ensures in
    c.refuse-then-m-i-ne1.ensures _ ∙ old_away a.s m a.cid a.used _ st.ranges.cid b c.if-bits-ge128.false c.if-m-i-ne1.true

pub returns : goal.returns
returns c =
    let st = c in
    let a = st.args in
    let m = a.m.now in
    let i = c.bits-bits.result in
    let b = bits_are a.cid _ st.ranges.cid c.bits-bits.ensures in
    let x = element (get_or m.entries.xs i (pos 0)) c.x-1.given in
    let y = element (get_or m.entries.ys i (pos 0)) c.y-1.given in
    c.gave.ensures _
    ∙ rw (back a.cid st.ranges.cid, x, y) (old_here a.s m a.cid a.used _ st.ranges.cid b c.if-bits-ge128.false c.if-m-i-ne1.false)

pub returns-then-bits-ge128 : goal.returns-then-bits-ge128
returns-then-bits-ge128 c =
    let st = c in let a = st.args in let m = a.m.now in
    c.refuse.ensures _
    ∙ old_far a.s m a.cid a.used _ _ st.ranges.cid c.bits-bits.ensures c.if-bits-ge128.true c.no_entry.ensures
