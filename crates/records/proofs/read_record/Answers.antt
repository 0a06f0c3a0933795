-- `records::read_record` meets its contract. Assumes nothing.
use mathlib.Core.Path.{refl, sym, ◌∙◌, ap}
use Rattle.item.specs.Records.{read_record}
use Rattle.item.specs.steps.Reading.{after_kind}
use Rattle.kinds.specs.steps.Kinds.{kind_is}
use Rattle.records.proofs.read_record.Goals as goal

pub returns-in-Got : goal.returns-in-Got
unfolding read_record
returns-in-Got c =
    let k = c in
    let s = k.args.s.now in
    record {
      values = c.read_rest.ensures.values ∙ ap (after_kind s) (ap kind_is (sym c.in-Got.is) ∙ k.read_kind-read.ensures);
      tidy = c.read_rest.ensures.tidy;
    }

pub returns-in-RunsOut : goal.returns-in-RunsOut
unfolding read_record
returns-in-RunsOut c =
    let k = c in
    let s = k.args.s.now in
    rw c.alone.ensures
    (record { values = ap (after_kind s) (ap kind_is (sym c.in-RunsOut.is) ∙ k.read_kind-read.ensures); tidy = refl })

pub returns-in-Refused : goal.returns-in-Refused
unfolding read_record
returns-in-Refused c =
    let k = c in
    let s = k.args.s.now in
    rw c.alone-in-Refused.ensures
    (record { values = ap (after_kind s) (ap kind_is (sym c.in-Refused.is) ∙ k.read_kind-read.ensures); tidy = refl })
