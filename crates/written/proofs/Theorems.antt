-- The statements of specs/Laws.antt. Assumes nothing.
use mathlib.Core.Path.{sym, ◌∙◌}
use mathlib.Core.Bool.{◌&&◌}
use lib.Dec.{leb}
use Rattle.varint.proofs.Theorems.{shorter}
use Rattle.fields.specs.Writing.{parts_inside}
use Rattle.fields.specs.Laws.{is_out}
use Rattle.fields.proofs.Answers.{and_split}
use Rattle.item.specs.Records.{meaning, read_record}
use Rattle.item.specs.Contents.{record_of}
use Rattle.written.specs.Written.{write_content, record_bytes}
use Rattle.written.specs.Form.{tag_count}
use Rattle.written.specs.Form.{content_writable, has_form}
use Rattle.written.specs.Laws.{WritableIsForm, RecordWrittenReads, RecordReadsWritten, Rewritten, RecordSteady, RecordCalls}
use Rattle.written.proofs.Back.{tag_back}
use Rattle.written.proofs.Calls.{call_is}
use Rattle.written.proofs.Rewritten.{record_rewritten}
use Rattle.written.proofs.Steady.{record_stays}
use Rattle.written.proofs.Typed.{content_typed}
use Rattle.written.proofs.Unwritable.{writable_is_form}
use Rattle.written.proofs.Whole.{record_same}

pub writable_form : WritableIsForm
writable_form = writable_is_form

pub written_reads : RecordWrittenReads
unfolding write_content content_writable has_form record_bytes
written_reads v s r typed w after =
    let c = record_of r in
    let m = meaning s c in
    let few = leb (tag_count c.tag r.args) 16 in
    let o = and_split few (parts_inside s c.values && content_writable v m) (sym (writable_is_form v s r) ∙ w) in
    let p = and_split (parts_inside s c.values) (content_writable v m) o.1 in
    tag_back v c.tag m.values (content_typed s c.tag c.values typed p.0) p.1 after

pub reads_written : RecordReadsWritten
reads_written = record_same

pub rewritten : Rewritten
rewritten v s r next b g tidy clean =
    let x = record_rewritten v s r next b g tidy clean in
    (writable_is_form v s r ∙ x.0, x.1)

pub record_steady : RecordSteady
record_steady v = (record_stays v, shorter is_out (read_record v) (record_stays v))

pub record_calls : RecordCalls
record_calls = call_is
