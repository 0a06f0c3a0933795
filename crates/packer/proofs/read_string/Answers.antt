use Rattle.std.proofs.Common.{arith, rules, tests}
use Rattle.std.proofs.lemmas.Grind.{common_steps}
use Rattle.std.proofs.lemmas.Iterator.{YieldsList-from_slice}
use Rattle.std.proofs.lemmas.Iterator.Search.{position_from_yields_List}
use Rattle.packer.proofs.Reading.{is_zero, string_outside, string_found, string_unended}
use Rattle.varint.proofs.Laws.{tail_is}
use Rattle.packer.proofs.read_string.Goals as goal

pub returns-in_default : goal.returns-in_default
returns-in_default c = grind (arith, common_steps, string_outside)

pub returns-in-Some-position : goal.returns-in-Some-position
returns-in-Some-position c =
    let p = position_from_yields_List is_zero _ _ _ c.position.ensures.ran (YieldsList-from_slice c.in-Some.rest.now cc) (λ x b q k. search (rules, tests)) in
    grind (arith, common_steps, tail_is, string_found)

pub returns-in-None : goal.returns-in-None
returns-in-None c =
    let p = position_from_yields_List is_zero _ _ _ c.position.ensures.ran (YieldsList-from_slice c.in-Some.rest.now cc) (λ x b q k. search (rules, tests)) in
    grind (arith, common_steps, tail_is, string_unended)
