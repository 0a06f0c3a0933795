-- `lines::put_four` meets its contract. Assumes nothing.
use Prim.Native.Nat.{◌/◌, ◌%◌}
use native.Mathlib.Omega.{arith}
use Rattle.lines.proofs.Digits.{pair, Halves, by_pair}
use Rattle.lines.proofs.put_four.Goals as goal
use Rattle.lines.proofs.put_four.Goals.{After-put_pair-arg-1, After-put_two-arg-1, After-slice_known-then-n-gt99-2-1}

parts : (c : After-slice_known-then-n-gt99-2-1) → let a = c.args in Halves a.out.now a.at a.n (a.n / 100) (pair (a.n % 100))
parts c = by_pair _ _ _ c.requires.1 (omega arith) (omega arith)

pub returns-then-n-gt99 : goal.returns-then-n-gt99
returns-then-n-gt99 c =
    let q = c in
    let p = q in
    (parts p).both _ _ p.put_two-next.ensures _ _ q.put_pair.ensures

parts_2 : (c : After-put_two-arg-1) → let a = c.args in Halves a.out.now a.at a.n (a.n / 100) (pair (a.n % 100))
parts_2 c = by_pair _ _ _ c.requires.1 (omega arith) (omega arith)

pub put_two-next-requires : goal.put_two-next-requires
put_two-next-requires c =
    (omega arith, (parts_2 c).high_fits)

parts_3 : (c : After-put_pair-arg-1) → let a = c.args in Halves a.out.now a.at a.n (a.n / 100) (pair (a.n % 100))
parts_3 c = by_pair _ _ _ c.requires.1 (omega arith) (omega arith)

pub put_pair-requires : goal.put_pair-requires
put_pair-requires c =
    let p = c in (omega arith, (parts_3 p).low_fits _ _ p.put_two-next.ensures)
