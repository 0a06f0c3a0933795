-- `choosing::no_args` meets its contract. Assumes nothing.
use mathlib.Core.Path.{refl}
use Rattle.fields.specs.Views.{args_with}
use Rattle.choosing.proofs.no_args.Goals as goal

pub returns : goal.returns
unfolding args_with
returns c = refl
