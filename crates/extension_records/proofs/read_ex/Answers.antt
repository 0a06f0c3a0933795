-- `extension_records::read_ex` meets its contract. Assumes nothing.
use mathlib.Core.Path.{◌≡◌, sym, ◌∙◌, ap}
use Rattle.packer.specs.declared.DataRead.{DataRead}
use Rattle.packer.specs.declared.DataRead.TheVariants as blobs
use Rattle.packer.proofs.Parts.{data_taken}
use Rattle.shapes.specs.steps.Shapes.{id_part}
use Rattle.shapes.proofs.Kept.{id_kept}
use Rattle.item.specs.Records.{read_ex}
use Rattle.item.specs.steps.Reading.{after_data, after_id}
use Rattle.extension_records.proofs.read_ex.Goals as goal
use Rattle.extension_records.proofs.read_ex.Goals.{After-read_found, In-NegativeLength, In-RunsOut}

pub returns-in_default : goal.returns-in_default
unfolding read_ex
returns-in_default c =
    let s = c.args.s.now in
    ap (after_id s) (sym c.in_default.is ∙ c.read_raw.ensures)

pub read_found-requires : goal.read_found-requires
read_found-requires c =
    let d = c in
    let r = d in
    let s = r.args.s.now in
    (data_taken s _ d.in-Got-read.next d.in-Got-read.load (sym r.read_data-read.ensures ∙ d.in-Got-read.is)).within

-- what the definition says of the data that was read
after : (c : After-read_found) (x : DataRead) → c.read_data-read.result ≡ x
    → after_data c.args.s.now (id_part c.args.at) x
    ≡ read_ex c.args.s.now c.args.at
unfolding read_ex
after c x e =
    let i = c in
    let r = i in
    let a = r.args in
    ap (after_data a.s.now (id_part a.at)) (sym e ∙ c.read_data-read.ensures)
    ∙ ap (after_id a.s.now) (sym (id_kept a.s.now a.at r.read_raw.ensures i.in-Got.is))

pub returns-in-Got-read : goal.returns-in-Got-read
returns-in-Got-read c =
    let d = c in
    c.read_found.ensures ∙ after d (blobs.Got d.in-Got-read.load d.in-Got-read.next) d.in-Got-read.is

-- what the definition says of the data that was read
after_2 : (c : In-RunsOut) (x : DataRead) → c.read_data-read.result ≡ x
    → after_data c.args.s.now (id_part c.args.at) x
    ≡ read_ex c.args.s.now c.args.at
unfolding read_ex
after_2 c x e =
    let i = c in
    let r = i in
    let a = r.args in
    ap (after_data a.s.now (id_part a.at)) (sym e ∙ c.read_data-read.ensures)
    ∙ ap (after_id a.s.now) (sym (id_kept a.s.now a.at r.read_raw.ensures i.in-Got.is))

pub returns-in-RunsOut : goal.returns-in-RunsOut
returns-in-RunsOut c = after_2 c blobs.RunsOut c.in-RunsOut.is

-- what the definition says of the data that was read
after_3 : (c : In-NegativeLength) (x : DataRead) → c.read_data-read.result ≡ x
    → after_data c.args.s.now (id_part c.args.at) x
    ≡ read_ex c.args.s.now c.args.at
unfolding read_ex
after_3 c x e =
    let i = c in
    let r = i in
    let a = r.args in
    ap (after_data a.s.now (id_part a.at)) (sym e ∙ c.read_data-read.ensures)
    ∙ ap (after_id a.s.now) (sym (id_kept a.s.now a.at r.read_raw.ensures i.in-Got.is))

pub returns-in-NegativeLength : goal.returns-in-NegativeLength
returns-in-NegativeLength c = after_3 c blobs.NegativeLength c.in-NegativeLength.is
