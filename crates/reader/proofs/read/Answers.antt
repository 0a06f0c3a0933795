-- `reader::read` meets its contract. Assumes nothing.
use mathlib.Core.Path.{sym, ◌∙◌}
use Rattle.arguments.proofs.Tests.{off, on}
use Rattle.reader.proofs.Calls.{renamed, call_bad, call_closed, call_open}
use Rattle.reader.proofs.read.Goals as goal

pub returns-then-not-good_memory : goal.returns-then-not-good_memory
returns-then-not-good_memory c =
    let a = c.args in
    renamed
    (call_bad a.reader a.window.now a.last c.of-m.result c.of-m.ensures (off _ _ c.good_memory.ensures c.if-not-good_memory.true))
    c.refused.ensures

pub returns-then-is_closed : goal.returns-then-is_closed
returns-then-is_closed c =
    let a = c.args in
    renamed
    (call_closed a.reader a.window.now a.last c.of-m.result c.of-m.ensures (on _ _ c.good_memory.ensures c.if-not-good_memory.false) (sym c.is_closed.ensures ∙ c.if-is_closed.true))
    c.refused-then-is_closed.ensures

pub returns : goal.returns
returns c =
    let a = c.args in
    rw c.answered.ensures
    (renamed
    (call_open a.reader a.window.now a.last c.of-m.result c.of-m.ensures (on _ _ c.good_memory.ensures c.if-not-good_memory.false) (sym c.is_closed.ensures ∙ c.if-is_closed.false))
    c.open_told-told.ensures)
