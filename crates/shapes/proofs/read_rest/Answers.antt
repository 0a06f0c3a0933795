-- `shapes::read_rest` meets its contract: each shape by its fields in their order. Assumes nothing.
use mathlib.Core.Path.{◌≡◌, refl}
use mathlib.Core.List.{[], ◌∷◌}
use borrow.Author.Rules.{rules}
use mir.Syntax.{w32}
use mir.Val.{to_z, of_z}
use Rattle.varint.specs.Integers.{read_int}
use Rattle.packer.specs.Parts.{read_string}
use Rattle.fields.specs.Fields.{str, num, bytes, read_fields}
use Rattle.fields.specs.steps.Sorts.{push}
use Rattle.shapes.specs.steps.Shapes.{id_part}
use Rattle.shapes.specs.declared.Shape.TheVariants.{IntUuidStr, IntUuidIntStr}
use Rattle.shapes.proofs.Kept.{id_kept, by_int, by_part}
use Rattle.shapes.proofs.read_rest.Goals as goal

pub returns-in-Got : goal.returns-in-Got
returns-in-Got c =
    let g = c in
    let r = g in
    let a = r.args in
    let x : to_z w32 (of_z w32 a.first) ≡ a.first = search rules in
    let id = id_kept _ _ r.read_raw.ensures g.in-Got.is in
    rw (r.in-IntUuidStr.is, c.with_text-in-IntUuidStr.ensures, x, c.read_string-in-IntUuidStr.ensures, id)
    (by_part IntUuidStr (λ y. push (num a.first) (push (bytes (id_part a.at)) y)) refl (read_string a.s.now _) _ (read_fields [] a.s.now)
    (λ t m. record { values = refl; blank = refl }))

pub returns-in-Got-read_raw : goal.returns-in-Got-read_raw
returns-in-Got-read_raw c =
    let g = c in
    let r = g in
    let a = r.args in
    let x : to_z w32 (of_z w32 a.first) ≡ a.first = search rules in
    let id = id_kept _ _ r.read_raw-in-IntUuidIntStr.ensures g.in-Got-read_raw.is in
    rw (r.in-IntUuidIntStr.is, c.read_second-in-IntUuidIntStr.ensures, x, id)
    (by_int IntUuidIntStr (λ y. push (num a.first) (push (bytes (id_part a.at)) y)) refl (read_int a.s.now _) _ (read_fields (str ∷ []) a.s.now)
    (λ z n. by_part IntUuidIntStr (λ y. push (num a.first) (push (bytes (id_part a.at)) (push (num z) y))) refl (read_string a.s.now n) _ (read_fields [] a.s.now)
    (λ t m. record { values = refl; blank = refl })))
