use Rattle.std.proofs.Common.{arith}
use Rattle.varint.proofs.Writing.{short}
use Rattle.packer.proofs.Joined.{put_answer}
use Rattle.text_writer.proofs.write_raw.Goals as goal

pub returns-then-out-at : goal.returns-then-out-at
returns-then-out-at c =
    let a = c.args in
    let said = short a.out.now a.at a.b.now (omega arith) in
    record { answer = said.0; target = said.1 }

pub returns : goal.returns
returns c =
    let a = c.args in
    let said = put_answer a.out.now a.at a.b.now (omega arith) _ _ c.put.ensures in
    record { answer = said.0; target = said.1 }
