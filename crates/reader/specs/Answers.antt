-- What the calls on a reader by value hand back, as the definitions say it.
use Rattle.std.specs.Prelude.{ℕ, ◌≡◌, Bool, List}
use Rattle.state.specs.Reading.{Step, read_call, reader_after}
use Rattle.state.specs.declared.Reader.{Reader}
use Rattle.reader.specs.declared.ReadAnswer.{ReadAnswer}
pub use Rattle.arguments.specs.Arguments.{said_with, answer_args}

-- what a call says, the reader that it leaves, the ten numbers and the former ten, and no arguments but a command's
pub record Tells (t : Step) (r : ReadAnswer) : Type 0 where
  pub said : said_with r.answer r.args ≡ t.said
  pub left : r.reader ≡ reader_after t
  pub input : r.input ≡ t.memory.input
  pub former : r.former ≡ t.memory.former
  pub args : answer_args r.answer r.args ≡ r.args

abbrev pub ReadIs : Reader → List ℕ → Bool → ReadAnswer → Type 0
ReadIs reader w last r = Tells (read_call reader w last) r
