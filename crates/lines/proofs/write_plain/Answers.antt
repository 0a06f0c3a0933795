-- `lines::write_plain` meets its contract. Assumes nothing.
use Prim.Native.Nat.{◌+◌, ◌≤◌}
use mathlib.Core.Path.{sym, ◌∙◌}
use mathlib.Core.List.{◌++◌}
use native.Mathlib.Omega.{arith}
use borrow.Author.Tests.{leb-true}
use lib.ListN.{length, length-append}
use Rattle.lines.specs.Lines.{decimals, newline, plain_most}
use Rattle.lines.proofs.Texts.{end_le}
use Rattle.lines.proofs.write_plain.Goals as goal
use Rattle.lines.proofs.write_plain.Goals.{After-put_line-arg-1}

-- there is room
room : (c : After-put_line-arg-1) → let a = c.args in a.at + plain_most a.word.now a.ns.now ≤ length a.out.now
room c =
    let a = c.args in
    leb-true (a.at + plain_most a.word.now a.ns.now) (length a.out.now) (sym c.has_room.ensures ∙ c.if-has_room.true)

pub put_line-requires : goal.put_line-requires
put_line-requires c =
    let a = c.args in
    omega (arith, room c, length-append a.word.now (decimals a.ns.now ++ newline), end_le a.ns.now)
