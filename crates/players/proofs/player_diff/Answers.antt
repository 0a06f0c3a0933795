-- `players::player_diff` meets its contract. Assumes nothing.
use mathlib.Core.Path.{◌∙◌}
use lib.ListN.{get_or}
use lib.IntN.{pos}
use mir.Syntax.{w32}
use mir.Val.{SFits}
use Rattle.state.proofs.Numbers.{back, bits_are, added}
use Rattle.players.proofs.Cases.{diff_far, diff_away, diff_here}
use Rattle.players.proofs.player_diff.Goals as goal

pub returns-then-bits-ge128 : goal.returns-then-bits-ge128
returns-then-bits-ge128 c =
    let st = c in
    let a = st.args in
    let m = a.m.now in
    let b = bits_are a.cid _ st.ranges.cid c.bits-bits.ensures in
    c.refuse.ensures _ ∙ diff_far a.s m a.cid a.dx a.dy a.used _ st.ranges.cid b c.if-bits-ge128.true

pub returns-then-m-i-ne1 : goal.returns-then-m-i-ne1
returns-then-m-i-ne1 c =
    let st = c in
    let a = st.args in
    let m = a.m.now in
    let b = bits_are a.cid _ st.ranges.cid c.bits-bits.ensures in
    c.refuse-then-m-i-ne1.ensures _ ∙ diff_away a.s m a.cid a.dx a.dy a.used _ st.ranges.cid b c.if-bits-ge128.false c.if-m-i-ne1.true

pub returns : goal.returns
returns c =
    let st = c in
    let a = st.args in
    let m = a.m.now in
    let i = c.bits-bits.result in
    let b = bits_are a.cid _ st.ranges.cid c.bits-bits.ensures in
    let x = get_or m.entries.xs i (pos 0) in
    let y = get_or m.entries.ys i (pos 0) in
    let fx : SFits w32 x = record { sfits = c.old_x-1.given } in
    let fy : SFits w32 y = record { sfits = c.old_y-1.given } in
    let wx = added x a.dx _ fx st.ranges.dx c.wrapping_add-x.ensures.fits_signed c.wrapping_add-x.ensures.value in
    let wy = added y a.dy _ fy st.ranges.dy c.wrapping_add-y.ensures.fits_signed c.wrapping_add-y.ensures.value in
    c.gave.ensures _
    ∙ rw (back a.cid st.ranges.cid, wx, wy, back x fx, back y fy)
    (diff_here a.s m a.cid a.dx a.dy a.used _ st.ranges.cid b c.if-bits-ge128.false c.if-m-i-ne1.false)
