-- `lines::put_natural` meets its contract. Assumes nothing.
use Prim.Native.Nat.{◌/◌, ◌%◌}
use mathlib.Core.Path.{◌≡◌}
use native.Mathlib.Omega.{arith}
use Rattle.lines.proofs.Digits.{pairs, Halves, by_pairs}
use Rattle.lines.proofs.put_natural.Goals as goal
use Rattle.lines.proofs.put_natural.Goals.{After-put_four-arg-then-n-lt100000000-1, After-put_pairs-arg-1, After-put_pairs-arg-2-1, After-put_pairs-arg-3-1, After-put_two-arg-1, After-slice_known-4-1, After-slice_known-then-n-lt100000000-2-1}

-- the last four digits
last : (c : After-put_four-arg-then-n-lt100000000-1) → let a = c.args in Halves a.out.now a.at a.n (a.n / 10000) (pairs (a.n % 10000))
last c = by_pairs _ _ _ c.requires (omega arith) (omega arith)

pub put_four-next-requires : goal.put_four-next-requires
put_four-next-requires c =
    (omega arith, (last c).high_fits)

-- the last four digits
last_2 : (c : After-put_pairs-arg-1) → let a = c.args in Halves a.out.now a.at a.n (a.n / 10000) (pairs (a.n % 10000))
last_2 c = by_pairs _ _ _ c.requires (omega arith) (omega arith)

pub put_pairs-requires : goal.put_pairs-requires
put_pairs-requires c =
    let p = c in (omega arith, (last_2 p).low_fits _ _ p.put_four-next.ensures)

-- the last four digits
last_3 : (c : After-slice_known-then-n-lt100000000-2-1) → let a = c.args in Halves a.out.now a.at a.n (a.n / 10000) (pairs (a.n % 10000))
last_3 c = by_pairs _ _ _ c.requires (omega arith) (omega arith)

pub returns-then-n-lt100000000 : goal.returns-then-n-lt100000000
returns-then-n-lt100000000 c =
    let q = c in let p = q in
    (last_3 p).both _ _ p.put_four-next.ensures _ _ q.put_pairs.ensures

-- the last four digits
last_4 : (c : After-put_two-arg-1) → let a = c.args in Halves a.out.now a.at a.n (a.n / 10000) (pairs (a.n % 10000))
last_4 c = by_pairs _ _ _ c.requires (omega arith) (omega arith)

-- the four before them
middle : (c : After-put_two-arg-1)
    → let a = c.args in Halves a.out.now a.at (a.n / 10000) (a.n / 100000000) (pairs (a.n / 10000 % 10000))
middle c =
    let a = c.args in
    let e : a.n / 10000 / 10000 ≡ a.n / 100000000 = omega arith in
    rw e at (by_pairs a.out.now a.at (a.n / 10000) (last_4 c).high_fits (omega arith) (omega arith))

pub put_two-next-requires : goal.put_two-next-requires
put_two-next-requires c =
    (omega arith, (middle c).high_fits)

-- the last four digits
last_5 : (c : After-put_pairs-arg-2-1) → let a = c.args in Halves a.out.now a.at a.n (a.n / 10000) (pairs (a.n % 10000))
last_5 c = by_pairs _ _ _ c.requires (omega arith) (omega arith)

-- the four before them
middle_2 : (c : After-put_pairs-arg-2-1)
    → let a = c.args in Halves a.out.now a.at (a.n / 10000) (a.n / 100000000) (pairs (a.n / 10000 % 10000))
middle_2 c =
    let a = c.args in
    let e : a.n / 10000 / 10000 ≡ a.n / 100000000 = omega arith in
    rw e at (by_pairs a.out.now a.at (a.n / 10000) (last_5 c).high_fits (omega arith) (omega arith))

pub put_pairs-more-requires : goal.put_pairs-more-requires
put_pairs-more-requires c =
    let p = c in (omega arith, (middle_2 p).low_fits _ _ p.put_two-next.ensures)

-- the last four digits
last_6 : (c : After-put_pairs-arg-3-1) → let a = c.args in Halves a.out.now a.at a.n (a.n / 10000) (pairs (a.n % 10000))
last_6 c = by_pairs _ _ _ c.requires (omega arith) (omega arith)

-- the four before them
middle_3 : (c : After-put_pairs-arg-3-1)
    → let a = c.args in Halves a.out.now a.at (a.n / 10000) (a.n / 100000000) (pairs (a.n / 10000 % 10000))
middle_3 c =
    let a = c.args in
    let e : a.n / 10000 / 10000 ≡ a.n / 100000000 = omega arith in
    rw e at (by_pairs a.out.now a.at (a.n / 10000) (last_6 c).high_fits (omega arith) (omega arith))

pub put_pairs-requires-2 : goal.put_pairs-requires-2
put_pairs-requires-2 c =
    let q = c in let p = q in
    (omega arith, (last_6 p).low_fits _ _ ((middle_3 p).both _ _ p.put_two-next.ensures _ _ q.put_pairs-more.ensures))

-- the last four digits
last_7 : (c : After-slice_known-4-1) → let a = c.args in Halves a.out.now a.at a.n (a.n / 10000) (pairs (a.n % 10000))
last_7 c = by_pairs _ _ _ c.requires (omega arith) (omega arith)

-- the four before them
middle_4 : (c : After-slice_known-4-1)
    → let a = c.args in Halves a.out.now a.at (a.n / 10000) (a.n / 100000000) (pairs (a.n / 10000 % 10000))
middle_4 c =
    let a = c.args in
    let e : a.n / 10000 / 10000 ≡ a.n / 100000000 = omega arith in
    rw e at (by_pairs a.out.now a.at (a.n / 10000) (last_7 c).high_fits (omega arith) (omega arith))

pub returns : goal.returns
returns c =
    let r = c in let q = r in let p = q in
    (last_7 p).both _ _ ((middle_4 p).both _ _ p.put_two-next.ensures _ _ q.put_pairs-more.ensures) _ _ r.put_pairs-2.ensures
