-- `records::read_item` meets its contract. Assumes nothing.
use mathlib.Core.Path.{sym, ◌∙◌}
use Rattle.item.specs.Records.{read_rest}
use Rattle.records.specs.declared.Rest.TheVariants as rests
use Rattle.records.proofs.Beside.{own_by_law, own_read}
use Rattle.records.proofs.read_item.Goals as goal

pub returns-in-Shaped : goal.returns-in-Shaped
returns-in-Shaped c =
    let a = c.args in
    own_read c.read_shaped.result (read_rest a.kind a.s.now a.at) c.read_shaped.ensures

pub returns-in-Dt : goal.returns-in-Dt
returns-in-Dt c =
    let o = c in
    let a = o.args in
    own_by_law a.kind a.s.now a.at rests.Dt c.read_dt.result c.read_dt.ensures (sym o.rest_of-rest.ensures ∙ c.in-Dt.is)

pub returns-in-Extension : goal.returns-in-Extension
returns-in-Extension c =
    let o = c in
    let a = o.args in
    own_by_law a.kind a.s.now a.at rests.Extension c.read_ex.result c.read_ex.ensures (sym o.rest_of-rest.ensures ∙ c.in-Extension.is)

-- ?? inline: sym c.before.before.before.rest_of.ensures ∙ c.before.rest.given.1
