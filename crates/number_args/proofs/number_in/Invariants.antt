-- The loop's invariant: the digits left, behind the number so far, are the answer.
use Rattle.std.proofs.Common.{◌≡◌, ◌≤◌, drop}
use Rattle.number_args.specs.Numbers.{digits_after, number_in}
use Rattle.number_args.proofs.number_in.Given as goal

abbrev pub invariant-loop-byte : goal.invariant-loop-byte
invariant-loop-byte l = (l.n ≤ 2147483647) × (number_in l.text ≡ digits_after l.n (drop l.byte-index l.text))
