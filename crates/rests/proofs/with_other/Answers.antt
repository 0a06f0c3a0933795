-- `rests::with_other` meets its contract. Assumes nothing.
use mathlib.Core.Path.{◌∙◌}
use Rattle.records.specs.declared.ItemRead.TheVariants as items
use Rattle.rests.proofs.Others.{other_rest}
use Rattle.rests.proofs.with_other.Goals as goal

pub returns-in-Got : goal.returns-in-Got
returns-in-Got c m =
    let r = c in
    let st = r in
    let a = st.args in
    rw (c.raised-scalars.ensures, c.cid.ensures) at (c.gave.ensures m)
    ∙ other_rest a.s m a.last a.w.now a.at a.kind st.requires _ (items.Got c.in-Got.item c.in-Got.next) r.read_item-read.ensures c.in-Got.is

pub returns-in-RunsOut : goal.returns-in-RunsOut
returns-in-RunsOut c m =
    let r = c in
    let st = r in
    let a = st.args in
    c.run_out.ensures m
    ∙ other_rest a.s m a.last a.w.now a.at a.kind st.requires _ items.RunsOut r.read_item-read.ensures c.in-RunsOut.is

pub returns-in-Refused : goal.returns-in-Refused
returns-in-Refused c m =
    let r = c in
    let st = r in
    let a = st.args in
    c.refuse.ensures m
    ∙ other_rest a.s m a.last a.w.now a.at a.kind st.requires _ (items.Refused c.in-Refused.r) r.read_item-read.ensures c.in-Refused.is
