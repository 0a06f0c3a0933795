-- What the calls of this crate hand back, from what the definitions read.
use Rattle.std.specs.Prelude.{List, [], get_or, drop, ℤ, pos}
use Rattle.packer.specs.declared.Part.{Part}
use Rattle.fields.specs.Fields.{Value, on_strings, Reading, got, runs_out, refused}
use Rattle.fields.specs.Views.{args_with, zeros, numbers}
use Rattle.fields.specs.declared.ArgsAnswer.{ArgsAnswer}
use Rattle.fields.specs.declared.ArgsAnswer.TheVariants as code
use Rattle.fields.specs.declared.ArgsRead.{ArgsRead}
use Rattle.fields.specs.declared.InputAnswer.{InputAnswer}
use Rattle.fields.specs.declared.InputAnswer.TheVariants as inputs
use Rattle.fields.specs.declared.InputRead.{InputRead}

-- ---- arguments: where the bytes run out and in a refusal there are none

abbrev pub read_args : ArgsAnswer → List Part → ArgsRead
read_args a ps = record { answer = a; args = args_with ps }

abbrev pub args_read : Reading (List Part) → ArgsRead
args_read (got ps next) = read_args (code.Got next) ps
args_read runs_out = read_args code.RunsOut []
args_read (refused r) = read_args (code.Refused r) []

abbrev pub field_parts : Reading (Value Part) → Reading (List Part)
field_parts (got v next) = got (on_strings [] (λ ps. ps) v) next
field_parts runs_out = runs_out
field_parts (refused r) = refused r

-- ---- an input: where the bytes run out the ten numbers are zeros

abbrev pub input_with : InputAnswer → List ℤ → InputRead
input_with a zs = record { answer = a; input = zs }

abbrev pub ten_read : ℤ → Reading (List (Value Part)) → InputRead
ten_read cid (got vs next) = input_with (inputs.Got cid next) (numbers vs)
ten_read cid runs_out = input_with inputs.RunsOut (zeros 10)
ten_read cid (refused r) = input_with inputs.RunsOut (zeros 10)

abbrev pub input_read : Reading (List (Value Part)) → InputRead
input_read (got vs next) = input_with (inputs.Got (get_or (numbers vs) 0 (pos 0)) next) (drop 1 (numbers vs))
input_read runs_out = input_with inputs.RunsOut (zeros 10)
input_read (refused r) = input_with inputs.RunsOut (zeros 10)
