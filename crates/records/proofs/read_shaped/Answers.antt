-- `records::read_shaped` meets its contract. Assumes nothing.
use mathlib.Core.Path.{◌≡◌, sym, ◌∙◌, ap}
use Rattle.packer.specs.declared.Part.{Part}
use Rattle.fields.specs.Fields.{got}
use Rattle.shapes.specs.steps.Shapes.{viewed}
use Rattle.shapes.specs.declared.FieldsRead.{FieldsRead}
use Rattle.shapes.specs.declared.FieldsRead.TheVariants as read
use Rattle.item.specs.Records.{Content, read_rest}
use Rattle.records.proofs.Rests.{of_shape, shaped_read}
use Rattle.records.proofs.read_shaped.Goals as goal
use Rattle.records.proofs.read_shaped.Goals.{After-plain_item, In-NegativeLength, In-RunsOut}

-- what the definition says of the fields that were read
after : (c : After-plain_item) (x : FieldsRead) → c.read_shape-read.result ≡ x
    → of_shape c.args.kind x ≡ read_rest c.args.kind c.args.s.now c.args.at
after c x e =
    let b = c in
    let a = b.args in
    shaped_read a.kind a.shape a.s.now a.at x b.requires (ap (viewed a.shape) (sym e) ∙ c.read_shape-read.ensures.values)

pub returns-in-Got : goal.returns-in-Got
returns-in-Got c =
    let f = c in
    ap (λ (x : Content Part). got x f.in-Got.next) c.plain_item.ensures ∙ after f (read.Got f.in-Got.fields f.in-Got.next) f.in-Got.is

-- what the definition says of the fields that were read
after_2 : (c : In-RunsOut) (x : FieldsRead) → c.read_shape-read.result ≡ x
    → of_shape c.args.kind x ≡ read_rest c.args.kind c.args.s.now c.args.at
after_2 c x e =
    let b = c in
    let a = b.args in
    shaped_read a.kind a.shape a.s.now a.at x b.requires (ap (viewed a.shape) (sym e) ∙ c.read_shape-read.ensures.values)

pub returns-in-RunsOut : goal.returns-in-RunsOut
returns-in-RunsOut c = after_2 c read.RunsOut c.in-RunsOut.is

-- what the definition says of the fields that were read
after_3 : (c : In-NegativeLength) (x : FieldsRead) → c.read_shape-read.result ≡ x
    → of_shape c.args.kind x ≡ read_rest c.args.kind c.args.s.now c.args.at
after_3 c x e =
    let b = c in
    let a = b.args in
    shaped_read a.kind a.shape a.s.now a.at x b.requires (ap (viewed a.shape) (sym e) ∙ c.read_shape-read.ensures.values)

pub returns-in-NegativeLength : goal.returns-in-NegativeLength
returns-in-NegativeLength c = after_3 c read.NegativeLength c.in-NegativeLength.is
