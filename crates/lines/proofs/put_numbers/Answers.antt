-- `lines::put_numbers` meets its contract. The loop's invariant: the numbers still to come, put at the next place, make of the target what
-- all of them make of it. Assumes nothing.
use Prim.Native.Nat.{◌+◌, ◌≤◌}
use mathlib.Core.Path.{◌≡◌, ◌∙◌}
use mathlib.Core.List.{[]}
use native.Mathlib.Omega.{arith}
use lib.ListN.{length, drop, get_or, drop_of_length-le}
use lib.IntN.{pos}
use mir.Syntax.{w32}
use mir.Val.{to_z, of_z}
use borrow.Author.Rules.{rules}
use Rattle.packer.proofs.Joined.{nothing_put}
use Rattle.lines.specs.Lines.{decimals}
use Rattle.lines.proofs.Numbers.{none, one_fits, same_size, same_end, same_bytes}
use Rattle.lines.proofs.put_numbers.Goals as goal

pub put_spaced-next-requires : goal.put_spaced-next-requires
put_spaced-next-requires c =
    let l = c.loop-n in
    let z = get_or c.args.ns.now l.n-index (pos 0) in
    let e : to_z w32 (of_z w32 z) ≡ z = search rules in
    rw e (one_fits c.args.ns.now l.n-index c.loop-n-test.true l.out l.next (omega (arith, l.invariant.1.0)))

pub loop-n-preserved : goal.loop-n-preserved
loop-n-preserved c =
    let l = c.loop-n in
    let ns = c.args.ns.now in
    let z = get_or ns l.n-index (pos 0) in
    let e : to_z w32 (of_z w32 z) ≡ z = search rules in
    let p = rw e at c.put_spaced-next.ensures in
    let h = c.loop-n-test.true in
    let f : l.next + length (decimals (drop l.n-index ns)) ≤ length l.out = omega (arith, l.invariant.1.0) in (
      same_size ns l.n-index h l.out l.next f _ _ p ∙ l.invariant.0,
      (
        same_end ns l.n-index h l.out l.next f _ _ p ∙ l.invariant.1.0,
        same_bytes ns l.n-index h l.out l.next f _ _ p ∙ l.invariant.1.1,
      ),
    )

pub returns : goal.returns
returns c =
    let l = c.loop-n in
    let a = c.args in
    let ns = a.ns.now in
    let e : decimals (drop l.n-index ns) ≡ [] = rw (drop_of_length-le ns c.loop-n-test.false) none in
    let n : l.next + 0 ≡ a.at + length (decimals ns) = rw e at l.invariant.1.0 in
    (omega arith, nothing_put l.out l.next (omega (arith, c.requires, l.invariant.0)) ∙ (rw e at l.invariant.1.1))
