-- `records::item_of` meets its contract. Assumes nothing.
use mathlib.Core.Path.{sym, ◌∙◌, ap}
use Rattle.packer.specs.declared.Part.{Part}
use Rattle.fields.specs.Fields.{got}
use Rattle.item.specs.Records.{Content}
use Rattle.records.specs.steps.Views.{own, answer_is}
use Rattle.records.specs.declared.RecordAnswer.{RecordAnswer}
use Rattle.records.proofs.Beside.{own_record}
use Rattle.records.proofs.item_of.Goals as goal

pub returns-in-Got : goal.returns-in-Got
returns-in-Got c =
    let r = c.args.read in
    ap (λ (x : Content Part). got x c.in-Got.next) (own_record r.value)
    ∙ ap (λ (a : RecordAnswer). own (answer_is a r.value)) (sym c.in-Got.is)
