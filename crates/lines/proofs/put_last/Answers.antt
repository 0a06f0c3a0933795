-- `lines::put_last` meets its contract. Assumes nothing.
use native.Mathlib.Omega.{arith}
use Rattle.lines.specs.Lines.{refused_word}
use Rattle.lines.proofs.Texts.{line_fits}
use Rattle.lines.proofs.put_last.Goals as goal

pub put_line-requires : goal.put_line-requires
put_line-requires c =
    let s = c in
    line_fits refused_word _ s.args.at _ s.requires (omega arith)

-- ?? inline: rw c.before.before.before.before.before.enum_told.given.1 c.before.before.put_word.ensures
