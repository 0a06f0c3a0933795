use Rattle.std.proofs.Common.{◌≡◌, ◌≤◌}
use Rattle.cases.specs.Cases.{place_of, count_to}
use Rattle.cases.proofs.count.Given as goal

abbrev pub invariant-loop : goal.invariant-loop
invariant-loop l = (l.n ≤ l.index) × (l.at ≡ place_of l.index l.s l.width) × (l.n ≡ count_to l.index l.s l.width)
