use Rattle.std.proofs.Common.{rules, add-one}
use Rattle.cases.specs.Cases.{place_of}
use Rattle.cases.proofs.place_of.Goals as goal

pub loop-init : goal.loop-init
unfolding place_of
loop-init c = search rules

pub loop-preserved : goal.loop-preserved
unfolding place_of
loop-preserved c = rw add-one (cc)
