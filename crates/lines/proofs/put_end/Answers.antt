-- `lines::put_end` meets its contract. Assumes nothing.
use Prim.Native.Nat.{◌+◌, ◌≤◌}
use mathlib.Core.Path.{refl}
use lib.ListN.{length}
use Rattle.varint.proofs.Writing.{fits_written}
use Rattle.packer.proofs.Joined.{next_fits, two_puts}
use Rattle.lines.specs.Lines.{decimals, newline}
use Rattle.lines.proofs.put_end.Goals as goal
use Rattle.lines.proofs.put_end.Goals.{After-slice_known-2-1}

-- the line's end fits
end_fits : (c : After-slice_known-2-1) → c.put_numbers-end.result + 1 ≤ length c.put_numbers-end.new.out
end_fits c =
    let s = c in
    next_fits s.args.out.now s.args.at (decimals s.args.ns.now) newline s.requires _ _ c.put_numbers-end.ensures

pub returns : goal.returns
returns c =
    let p = c in
    let s = p in
    two_puts s.args.out.now s.args.at (decimals s.args.ns.now) newline s.requires _ _ p.put_numbers-end.ensures _ _
    (refl, fits_written _ _ newline (end_fits p))
