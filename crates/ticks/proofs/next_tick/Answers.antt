-- `ticks::next_tick` meets its contract. Assumes nothing.
use Prim.Native.Nat.{◌+◌}
use mathlib.Core.Path.{◌≡◌, ◌∙◌}
use native.Mathlib.Omega.{arith}
use Rattle.state.proofs.Numbers.{bits_are}
use Rattle.ticks.proofs.Cases.{next_negative, next_past, next_to}
use Rattle.ticks.proofs.next_tick.Goals as goal

pub returns-then-b-ge2147483648 : goal.returns-then-b-ge2147483648
returns-then-b-ge2147483648 c =
    let s = c in
    let b = bits_are s.args.tick _ s.ranges.tick c.bits.ensures in
    next_negative s.args.tick s.args.k _ s.ranges.tick (c.wide-b.ensures.0 ∙ b) c.if-b-ge2147483648.true

pub returns-then-to-ge2147483648 : goal.returns-then-to-ge2147483648
returns-then-to-ge2147483648 c =
    let s = c in
    let b = bits_are s.args.tick _ s.ranges.tick c.bits.ensures in
    next_past s.args.tick s.args.k _ s.ranges.tick (c.wide-b.ensures.0 ∙ b) c.if-b-ge2147483648.false (omega arith)

pub returns : goal.returns
returns c =
    let s = c in
    let b = bits_are s.args.tick _ s.ranges.tick c.bits.ensures in
    let x = c.wide-b.result in
    let y = c.wide.result in
    let e : x + y + 1 ≡ x + s.args.k + 1 = omega arith in
    next_to s.args.tick s.args.k x (x + y + 1) s.ranges.tick (c.wide-b.ensures.0 ∙ b)
    c.if-b-ge2147483648.false e (omega arith)
