-- `lines::put_spaced` meets its contract. Assumes nothing.
use Prim.Native.Nat.{◌+◌, ◌-◌}
use mathlib.Core.Path.{◌≡◌, ◌∙◌}
use native.Mathlib.Omega.{arith}
use lib.ListN.{length-set, set}
use lib.IntN.{pos, negsuc}
use lib.Signed.{mag}
use mir.Syntax.{w32}
use mir.Val.{to_z, of_z}
use mir.Facts.{to_z-of_z}
use Rattle.num.proofs.Signs.{below_zero, not_below_zero, inverted}
use Rattle.lines.proofs.Numbers.{some_bytes, minus_fits, minus_put, plain_fits, plain_put}
use Rattle.lines.proofs.put_spaced.Goals as goal
use Rattle.lines.proofs.put_spaced.Goals.{After-put_natural-arg-1, After-put_natural-arg-2-1, After-slice_known-2-1, After-slice_known-then-value-lt0-1, Then-value-lt0}

pub bounds-out-at : goal.bounds-out-at
bounds-out-at c = omega (arith, some_bytes c.args.value)

below : (c : Then-value-lt0) → c.args.value ≡ negsuc (mag c.args.value)
below c =
    let s = c in
    below_zero s.args.value s.ranges.value c.if-value-lt0.true

pub bounds-out-at-then-value-lt0 : goal.bounds-out-at-then-value-lt0
bounds-out-at-then-value-lt0 c =
    let s = c in
    let a = s.args in
    omega (arith, minus_fits a.out.now a.at a.value s.requires (below c), length-set (set a.out.now a.at 32) (a.at + 1) 45)

below_2 : (c : After-put_natural-arg-1) → c.args.value ≡ negsuc (mag c.args.value)
below_2 c =
    let s = c in
    below_zero s.args.value s.ranges.value c.if-value-lt0.true

-- what is cast: the number without its sign
low : (c : After-put_natural-arg-1) → to_z w32 (4294967295 - of_z w32 c.args.value) ≡ pos (mag c.args.value)
low c = inverted c.args.value c.ranges.value (below_2 c)

pub put_natural-requires : goal.put_natural-requires
put_natural-requires c =
    let s = c in
    rw (low c) (minus_fits s.args.out.now s.args.at s.args.value s.requires (below_2 c))

below_3 : (c : After-slice_known-then-value-lt0-1) → c.args.value ≡ negsuc (mag c.args.value)
below_3 c =
    let s = c in
    below_zero s.args.value s.ranges.value c.if-value-lt0.true

-- what is cast: the number without its sign
low_2 : (c : After-slice_known-then-value-lt0-1) → to_z w32 (4294967295 - of_z w32 c.args.value) ≡ pos (mag c.args.value)
low_2 c = inverted c.args.value c.ranges.value (below_3 c)

pub returns-then-value-lt0 : goal.returns-then-value-lt0
returns-then-value-lt0 c =
    let i = c in
    let s = i in
    minus_put s.args.out.now s.args.at s.args.value s.requires (below_3 i) _ _ (rw (low_2 i) at c.put_natural.ensures)

not_below : (c : After-put_natural-arg-2-1) → c.args.value ≡ pos (mag c.args.value)
not_below c =
    let s = c in
    not_below_zero s.args.value s.ranges.value c.if-value-lt0.false

high : (c : After-put_natural-arg-2-1) → to_z w32 (of_z w32 c.args.value) ≡ pos (mag c.args.value)
high c = to_z-of_z {w = w32} {z = c.args.value} c.ranges.value ∙ not_below c

pub put_natural-requires-2 : goal.put_natural-requires-2
put_natural-requires-2 c =
    let s = c in
    rw (high c) (plain_fits s.args.out.now s.args.at s.args.value s.requires (not_below c))

not_below_2 : (c : After-slice_known-2-1) → c.args.value ≡ pos (mag c.args.value)
not_below_2 c =
    let s = c in
    not_below_zero s.args.value s.ranges.value c.if-value-lt0.false

high_2 : (c : After-slice_known-2-1) → to_z w32 (of_z w32 c.args.value) ≡ pos (mag c.args.value)
high_2 c = to_z-of_z {w = w32} {z = c.args.value} c.ranges.value ∙ not_below_2 c

pub returns : goal.returns
returns c =
    let i = c in
    let s = i in
    plain_put s.args.out.now s.args.at s.args.value s.requires (not_below_2 i) _ _ (rw (high_2 i) at c.put_natural-2.ensures)
