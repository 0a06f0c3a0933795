use Rattle.std.proofs.Common.{arith, rules, drop_of_length-le, length-drop}
use Rattle.std.proofs.lemmas.Grind.{common_steps}
use Rattle.varint.specs.Integers.{read_from, read_int}
use Rattle.varint.proofs.Laws.{grows, not_last, read_last, read_more, tail_at, tail_length}
use Rattle.varint.proofs.read_bytes.Goals as goal

pub loop-k-init : goal.loop-k-init
unfolding read_int
loop-k-init c = search rules

pub overflow_add-n : goal.overflow_add-n
overflow_add-n c = grind (arith, common_steps, grows)

pub returns-then-is_last : goal.returns-then-is_last
returns-then-is_last c = grind (arith, common_steps, tail_at, tail_length, read_last)

pub loop-k-preserved : goal.loop-k-preserved
loop-k-preserved c =
    let b = tail_at c.args.s.now c.args.at c.loop-k.k in
    let n = tail_length c.args.s.now c.args.at in
    grind (arith, common_steps, grows, not_last, read_more)

pub returns : goal.returns
unfolding read_from
returns c = grind (arith, common_steps, length-drop, drop_of_length-le)
