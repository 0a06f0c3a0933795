-- `record_call::record_call` meets its contract. Assumes nothing.
use Rattle.record_call.proofs.Calls.{called}
use Rattle.record_call.proofs.record_call.Goals as goal

pub returns : goal.returns
returns c =
    let r = c in
    let a = r.args in
    rw c.said_of.ensures (called a.version a.s.now a.last r.read_record-read.result r.read_record-read.ensures)
