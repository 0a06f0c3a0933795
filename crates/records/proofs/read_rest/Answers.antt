-- `records::read_rest` meets its contract. Assumes nothing.
use mathlib.Core.Path.{sym, ◌∙◌}
use Rattle.item.specs.Records.{read_ex, read_rest}
use Rattle.kinds.specs.declared.Kind.TheVariants as kinds
use Rattle.records.specs.declared.Rest.TheVariants as rests
use Rattle.records.proofs.Rests.{by_rest, rest_told}
use Rattle.records.proofs.Beside.{lone_shaped, lone_dt, lone_ex, whole_rest}
use Rattle.records.proofs.read_rest.Goals as goal

pub returns-in-Shaped : goal.returns-in-Shaped
returns-in-Shaped c =
    let o = c in
    let a = o.args in
    let e = sym o.rest_of-rest.ensures ∙ c.in-Shaped.is in
    let t = rest_told a.kind a.s.now a.at (rests.Shaped c.in-Shaped.shape) e in
    rw c.whole.ensures
    (whole_rest a.kind a.s.now a.at c.read_shaped.result (by_rest a.kind (rests.Shaped c.in-Shaped.shape) a.s.now a.at)
    (c.read_shaped.ensures ∙ sym t) (lone_shaped a.kind c.in-Shaped.shape e a.s.now a.at) t)

pub returns-in-Dt : goal.returns-in-Dt
returns-in-Dt c =
    let o = c in
    let a = o.args in
    rw c.whole-in-Dt.ensures
    (whole_rest a.kind a.s.now a.at c.read_dt.result (read_rest kinds.TickSkip a.s.now a.at)
    c.read_dt.ensures (lone_dt a.s.now a.at)
    (rest_told a.kind a.s.now a.at rests.Dt (sym o.rest_of-rest.ensures ∙ c.in-Dt.is)))

pub returns-in-Extension : goal.returns-in-Extension
returns-in-Extension c =
    let o = c in
    let a = o.args in
    rw c.whole-in-Extension.ensures
    (whole_rest a.kind a.s.now a.at c.read_ex.result (read_ex a.s.now a.at)
    c.read_ex.ensures (lone_ex a.s.now a.at)
    (rest_told a.kind a.s.now a.at rests.Extension (sym o.rest_of-rest.ensures ∙ c.in-Extension.is)))

-- ?? inline: sym c.before.before.before.rest_of.ensures ∙ c.before.rest.given.1
