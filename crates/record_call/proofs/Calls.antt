-- The record call: what it says of what was read. Assumes nothing.
use Prim.Native.Nat.{ℕ}
use mathlib.Core.Path.{◌≡◌, refl, ◌∙◌, ap}
use mathlib.Core.Bool.{Bool, true, false}
use mathlib.Core.List.{List}
use Rattle.item.specs.Records.{record_said, record_call}
use Rattle.kinds.specs.declared.Version.{Version}
use Rattle.item.specs.declared.Record.{Record}
use Rattle.records.specs.steps.Views.{answer_is, tidy_answer, RecordAt}
use Rattle.record_call.specs.steps.Said.{said_of}
use Rattle.record_call.specs.Calls.{said_by, tidy_said, Called}
use Rattle.records.specs.declared.RecordAnswer.{RecordAnswer}
use Rattle.records.specs.declared.RecordAnswer.TheVariants as answers
use Rattle.records.specs.declared.RecordRead.{RecordRead}

said_is_law : (a : RecordAnswer) (last : Bool) (r : Record) → said_by (said_of a last) r ≡ record_said last (answer_is a r)
said_is_law (answers.Got next) last r = refl
said_is_law answers.RunsOut true r = refl
said_is_law answers.RunsOut false r = refl
said_is_law (answers.Refused n) last r = refl

tidy_is : (a : RecordAnswer) (last : Bool) (r : Record) → tidy_said (said_of a last) r ≡ tidy_answer a r
tidy_is (answers.Got next) last r = refl
tidy_is answers.RunsOut true r = refl
tidy_is answers.RunsOut false r = refl
tidy_is (answers.Refused n) last r = refl

pub called : (v : Version) (s : List ℕ) (last : Bool) (x : RecordRead) → RecordAt v s x
    → Called v s last (record { answer = said_of x.answer last; value = x.value })
unfolding record_call
called v s last x h =
    record {
      said = said_is_law x.answer last x.value ∙ ap (record_said last) h.values;
      tidy = tidy_is x.answer last x.value ∙ h.tidy;
    }
