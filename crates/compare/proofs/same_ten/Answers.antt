-- `compare::same_ten` meets its contract. Assumes nothing.
use mathlib.Core.Path.{◌∙◌}
use Rattle.compare.proofs.Tens.{all_same}
use Rattle.compare.proofs.same_ten.Goals as goal

pub returns : goal.returns
returns c =
    let a = c.args in
    let e = c.eq.ensures in
    e ∙ all_same a.a a.b
