-- What a call by value says of the bytes that its event used. Assumes nothing.
use mathlib.Core.Path.{◌≡◌, refl, ap, ◌∙◌}
use Rattle.state.specs.Reading.{Step}
use Rattle.state.specs.Slim.{said_is}
use Rattle.state.specs.declared.Answer.{Answer}
use Rattle.state.specs.declared.Answer.TheVariants as answers
use Rattle.fields.specs.declared.Args.{Args}
use Rattle.reader.specs.Answers.{said_with, Tells}
use Rattle.reader.specs.declared.ReadAnswer.{ReadAnswer}
use Rattle.count.specs.Count.{used_by}

with_args : (a : Answer) (xs : Args) → used_by (said_is a) ≡ used_by (said_with a xs)
with_args (answers.Event e n) xs = refl
with_args answers.More xs = refl
with_args (answers.Finish n) xs = refl
with_args (answers.Refused r) xs = refl

pub used_is : (t : Step) (read : ReadAnswer) → Tells t read → used_by (said_is read.answer) ≡ used_by t.said
used_is t read told = with_args read.answer read.args ∙ ap used_by told.said
