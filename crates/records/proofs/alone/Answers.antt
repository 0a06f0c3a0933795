-- `records::alone` meets its contract. Assumes nothing.
use mathlib.Core.Path.{refl}
use Rattle.fields.specs.Views.{args_with}
use Rattle.records.proofs.alone.Goals as goal

pub returns : goal.returns
unfolding args_with
returns c =
    refl
