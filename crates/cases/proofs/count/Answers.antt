use Rattle.std.proofs.Common.{rules, add-one, arith}
use Rattle.cases.specs.Cases.{place_of, count_to}
use Rattle.cases.proofs.count.Goals as goal

pub loop-init : goal.loop-init
unfolding place_of count_to
loop-init c = search rules

pub loop-preserved : goal.loop-preserved
unfolding place_of count_to
loop-preserved c = (omega arith, rw add-one (cc), rw add-one (cc))
