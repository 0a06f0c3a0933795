use Rattle.std.proofs.Common.{◌≡◌, ◌+◌, ◌-◌, length, arith, refl, append_assoc, drop-drop}
use borrow.Author.Tests.{le-leb}
use Rattle.varint.specs.Written.{written}
use Rattle.text_writer.proofs.put.Goals as goal

pub returns : goal.returns
unfolding written
returns c =
    let a = c.args in
    let e : a.at + length a.b.now - a.at ≡ length a.b.now = omega arith in
    let t = le-leb (a.at + length a.b.now) (length a.out.now) c.requires in
    (refl, rw (e, c.copy_from_slice.ensures.after) (simp (t, append_assoc, drop-drop)))
