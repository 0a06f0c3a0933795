-- `results::Results::empty` meets its contract. Assumes nothing.
use mathlib.Core.Path.{refl}
use Rattle.results.specs.Results.{no_results}
use Rattle.results.proofs.Results.empty.Goals as goal

pub returns : goal.returns
unfolding no_results
returns c = refl
