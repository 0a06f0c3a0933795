use Rattle.std.proofs.Common.{arith}
use Rattle.ids.proofs.ByHalves.{eight}
use Rattle.ids.proofs.word.Goals as goal

pub returns : goal.returns
returns c = let a = c.args in rw (eight a.s.now a.at c.requires) (omega (arith, c.from_be_bytes.ensures))
