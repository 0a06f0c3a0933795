-- `lines::put_two` meets its contract. Assumes nothing.
use Prim.Native.Nat.{◌+◌}
use mathlib.Core.Path.{◌≡◌, refl, ap}
use mathlib.Core.List.{[], ◌∷◌}
use native.Mathlib.Omega.{arith}
use lib.ListN.{length}
use Rattle.varint.proofs.Writing.{fits_written}
use Rattle.lines.specs.Lines.{natural}
use Rattle.lines.proofs.Digits.{pair, natural_one, natural_two}
use Rattle.lines.proofs.put_two.Goals as goal
use Rattle.lines.proofs.put_two.Goals.{After-put_pair-arg-1, After-slice_known-then-n-gt9-1, Else-n-gt9}

two : (c : After-put_pair-arg-1) → let n = c.args.n in natural n ≡ pair n
two c = natural_two c.args.n c.if-n-gt9.true c.requires.0

pub put_pair-requires : goal.put_pair-requires
put_pair-requires c = (c.requires.0, omega (arith, ap length (two c)))

two_2 : (c : After-slice_known-then-n-gt9-1) → let n = c.args.n in natural n ≡ pair n
two_2 c = natural_two c.args.n c.if-n-gt9.true c.requires.0

pub returns-then-n-gt9 : goal.returns-then-n-gt9
returns-then-n-gt9 c = rw (two_2 c) c.put_pair.ensures

one : (c : Else-n-gt9) → let n = c.args.n in natural n ≡ (48 + n) ∷ []
one c = natural_one c.args.n c.if-n-gt9.false

pub bounds-out-at : goal.bounds-out-at
bounds-out-at c = omega (arith, ap length (one c))

pub returns : goal.returns
returns c =
    let a = c.args in
    rw (one c) (refl, fits_written a.out.now a.at ((48 + a.n) ∷ []) (omega (arith, ap length (one c))))
