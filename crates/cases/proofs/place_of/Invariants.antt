use Rattle.std.proofs.Common.{◌≡◌}
use Rattle.cases.specs.Cases.{place_of}
use Rattle.cases.proofs.place_of.Given as goal

abbrev pub invariant-loop : goal.invariant-loop
invariant-loop l = l.at ≡ place_of l.counter l.s l.width
