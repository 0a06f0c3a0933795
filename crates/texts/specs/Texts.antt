-- What a test program prints of a reading.
use Rattle.std.specs.Prelude.{ℕ, List, replicate, ℤ, Option, Some, None, Result, Ok, Err}
use Rattle.refusal.specs.declared.Refusal.{Refusal}
use Rattle.state.specs.Views.{event_is}
use Rattle.state.specs.declared.Answer.{Answer}
use Rattle.state.specs.declared.Answer.TheVariants as answers
use Rattle.lines.specs.Lines.{line_of, last_line, line_answer, line_target, plain_line, plain_most, text_answer, text_target}
use Rattle.lines.specs.declared.Ending.TheVariants.{Finish, Refused}
use Rattle.texts.specs.declared.Text.{Text}

-- 138 zeros
abbrev pub empty_text : List ℕ
empty_text = replicate 138 0

-- bytes up to the place past what was written
abbrev pub text_with : List ℕ → Result ℕ Refusal → Text
text_with bytes (Ok n) = record { bytes = bytes; len = n }
text_with bytes (Err r) = record { bytes = bytes; len = 0 }

abbrev pub no_text : Text
no_text = record { bytes = empty_text; len = 0 }

-- a line, which fits
abbrev pub line_text : List ℕ → Text
line_text line = text_with (line_target empty_text 0 line) (line_answer empty_text 0 line)

-- a word and numbers
abbrev pub plain_text : List ℕ → List ℤ → Text
plain_text word ns =
    text_with (text_target (plain_most word ns) empty_text 0 (plain_line word ns)) (text_answer (plain_most word ns) empty_text 0 (plain_line word ns))

abbrev pub told_text : Answer → List ℤ → Text
told_text (answers.Event e used) ten = line_text (line_of (event_is e) ten)
told_text answers.More ten = no_text
told_text (answers.Finish used) ten = line_text (last_line Finish)
told_text (answers.Refused r) ten = line_text (last_line (Refused r))

abbrev pub used_of : Answer → Option ℕ
used_of (answers.Event e used) = Some used
used_of answers.More = None
used_of (answers.Finish used) = None
used_of (answers.Refused r) = None
