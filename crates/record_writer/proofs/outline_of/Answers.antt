-- `record_writer::outline_of` meets its contract. Assumes nothing.
use mathlib.Core.Path.{◌≡◌}
use borrow.Author.Rules.{rules}
use lib.ListN.{length}
use mir.Syntax.{w32}
use mir.Val.{SFits}
use Rattle.outlines.proofs.Plain.{plain_outlines}
use Rattle.record_writer.proofs.outline_of.Goals as goal

pub returns-in-Plain : goal.returns-in-Plain
returns-in-Plain c =
    let d = c in
    let a = d.args in
    let f : SFits w32 a.f.first = search rules in
    let m : SFits w32 a.f.second = search rules in
    let n : length a.ten ≡ 10 = d.well_formed.1.1.1.1.0.1.0.1 in
    let k : length a.args.parts ≡ 16 = d.well_formed.1.1.1.1.1.0.1.1.1.0.1.0.1 in
    rw (c.in-Plain.is, c.kind_outline.ensures) (plain_outlines a.version a.s.now a.f a.ten a.args f m n k c.in-Plain.kind)
