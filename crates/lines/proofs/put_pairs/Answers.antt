-- `lines::put_pairs` meets its contract. Assumes nothing.
use Prim.Native.Nat.{◌/◌, ◌%◌}
use Rattle.packer.proofs.Joined.{two_puts}
use Rattle.lines.proofs.Digits.{pair}
use Rattle.lines.proofs.put_pairs.Goals as goal

pub returns : goal.returns
returns c =
    let q = c in
    let p = q in
    let s = p in
    let a = s.args in
    two_puts a.out.now a.at (pair (a.n / 100)) (pair (a.n % 100)) s.requires.1 _ _ p.put_pair-next.ensures _ _ q.put_pair.ensures
