-- `lines::put_pair` meets its contract. Assumes nothing.
use Prim.Native.Nat.{◌+◌, ◌*◌, ◌/◌, ◌%◌}
use mathlib.Core.Path.{◌≡◌, refl}
use native.Mathlib.Omega.{arith}
use native.Mathlib.Numerals.{add-one}
use Rattle.varint.proofs.Writing.{fits_written}
use Rattle.lines.proofs.Digits.{pair}
use Rattle.lines.proofs.put_pair.Goals as goal

pub returns : goal.returns
returns c =
    let a = c.args in
    let low : (12336 + 256 * (a.n % 10) + a.n / 10) % 256 ≡ 48 + a.n / 10 = omega (arith, c.requires.0) in
    let high : (12336 + 256 * (a.n % 10) + a.n / 10) / 256 ≡ 48 + a.n % 10 = omega (arith, c.requires.0) in
    (refl, rw (low, high, add-one) (fits_written a.out.now a.at (pair a.n) c.requires.1))
