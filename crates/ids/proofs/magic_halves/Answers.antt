-- `ids::magic_halves` meets its contract. Assumes nothing.
use Rattle.kinds.specs.Magic.{magic}
use Rattle.ids.proofs.magic_halves.Goals as goal

pub returns : goal.returns
unfolding magic
returns c = c.halves_with.ensures
