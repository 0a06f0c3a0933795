-- `lines::put_line` meets its contract. Assumes nothing.
use mathlib.Core.List.{◌++◌}
use Rattle.packer.proofs.Joined.{two_puts}
use Rattle.lines.specs.Lines.{decimals, newline}
use Rattle.lines.proofs.put_line.Goals as goal

pub returns : goal.returns
returns c =
    let w = c in
    let s = w in
    two_puts s.args.out.now s.args.at s.args.word.now (decimals s.args.ns.now ++ newline) s.requires _ _ w.put_word-next.ensures _ _
    c.put_end.ensures
