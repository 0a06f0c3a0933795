-- `reel::Reel::empty` meets its contract. Assumes nothing.
use mathlib.Core.Path.{refl}
use Rattle.reel.specs.Reel.{empty_reel}
use Rattle.reel.proofs.Reel.empty.Goals as goal

pub returns : goal.returns
unfolding empty_reel
returns c = refl
