-- `record_writer::write_record` meets its contract: the record is taken apart, and written by its outline. Assumes nothing.
use Rattle.item.specs.steps.Taken.{from_fields}
use Rattle.record_writer.proofs.Whole.{outline_writes}
use Rattle.record_writer.proofs.write_record.Goals as goal

pub returns : goal.returns
returns c =
    let a = c.args in
    let t = c.take_apart-taken in
    let o = c.outline_of-o in
    outline_writes a.version a.s.now a.value (from_fields t.result.tag t.result.fields) t.ensures.values o.result
    o.ensures
    a.out.now a.at _ _ (c.write_outline.ensures.answer, c.write_outline.ensures.target)
