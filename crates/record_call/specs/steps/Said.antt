-- What the record call says of a record that was read, or of one whose bytes run out.
use Rattle.std.specs.Prelude.{Bool, cond}
use Rattle.refusal.specs.declared.Refusal.TheVariants.{UnexpectedEnd}
use Rattle.records.specs.declared.RecordAnswer.{RecordAnswer}
use Rattle.records.specs.declared.RecordAnswer.TheVariants as answers
use Rattle.record_call.specs.declared.CallAnswer.{CallAnswer}
use Rattle.record_call.specs.declared.CallAnswer.TheVariants as calls

abbrev pub said_of : RecordAnswer → Bool → CallAnswer
said_of (answers.Got next) last = calls.Got next
said_of answers.RunsOut last = cond last (calls.Refused UnexpectedEnd) calls.More
said_of (answers.Refused r) last = calls.Refused r
