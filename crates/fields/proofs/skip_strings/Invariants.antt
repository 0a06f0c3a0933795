-- The loop's invariant: what passing over the bytes that are left answers is the answer.
use Rattle.std.proofs.Common.{◌≡◌, [], ◌<◌, ◌≤◌}
use lib.ListN.{drop}
use Rattle.fields.specs.Fields.{args_from}
use Rattle.fields.specs.steps.Reads.{args_read}
use Rattle.fields.proofs.Passed.{passing}
use Rattle.fields.proofs.skip_strings.Given as goal

abbrev pub invariant-loop-i : goal.invariant-loop-i
invariant-loop-i l =
    (l.passed ≤ 16) × ((l.passed < l.n) × ((args_read (args_from l.n l.s [] l.at)).answer ≡ passing (drop l.i l.s) l.n l.passed l.i))
