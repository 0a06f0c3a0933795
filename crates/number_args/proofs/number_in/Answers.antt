use Rattle.std.proofs.Common.{arith}
use Rattle.std.proofs.lemmas.Grind.{common_steps}
use Rattle.std.proofs.lemmas.Bool.Decides.{nat_tests}
use Rattle.number_args.proofs.Digits.{none, some, small, bad_digit, good_digit, no_digit}
use Rattle.number_args.proofs.number_in.Goals as goal

pub returns-then-is_empty : goal.returns-then-is_empty
returns-then-is_empty c = grind (arith, nat_tests, none)

pub loop-byte-init : goal.loop-byte-init
loop-byte-init c = grind (arith, nat_tests, some)

pub returns-then-not-goes_on : goal.returns-then-not-goes_on
returns-then-not-goes_on c = grind (arith, common_steps, bad_digit)

pub loop-byte-preserved : goal.loop-byte-preserved
loop-byte-preserved c = grind (arith, common_steps, small, good_digit)

pub returns : goal.returns
returns c = grind (arith, common_steps, no_digit)
