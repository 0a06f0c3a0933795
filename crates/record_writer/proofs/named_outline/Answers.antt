-- `record_writer::named_outline` meets its contract. Assumes nothing.
use Prim.Native.Nat.{◌-◌, ◌≤◌}
use mathlib.Core.Path.{◌≡◌, sym, ◌∙◌, ap}
use mathlib.Core.Bool.{true}
use native.Mathlib.Omega.{arith}
use lib.ListN.{length}
use lib.IntN.{pos}
use mir.Syntax.{w32}
use mir.Val.{to_z}
use mir.Facts.{to_z_pos}
use borrow.Author.Tests.{lt-leb}
use Rattle.record_writer.specs.steps.Room.{left_after}
use Rattle.record_writer.specs.declared.Left.TheVariants.{Room}
use Rattle.record_writer.proofs.Leaves.{room_left, too_short, not_ok}
use Rattle.outlines.proofs.Extensions.{load_ok, load_bytes, named_outlines, bad_load}
use Rattle.record_writer.proofs.named_outline.Goals as goal
use Rattle.record_writer.proofs.named_outline.Goals.{After-never, After-never-in-Unwritable, After-outline_with}

-- the room that the data leaves
measured : (c : After-outline_with) → let a = c.args in
    let l = c.payload_of.result in
    c.measure-left.result ≡ left_after (Room 2147483647) (load_ok a.s.now a.f l) (length (load_bytes a.s.now a.f l))
measured c = rw (c.outline_with-data.ensures, c.payload_plan-plan.ensures) at c.measure-left.ensures

module _ (c : After-outline_with) where
  fits : let d = c in
      let a = d.args in
      let l = c.payload_of.result in
      let n = length (load_bytes a.s.now a.f l) in
      (load_ok a.s.now a.f l ≡ true) × ((n ≤ 2147483647) × (c.in-Room.room ≡ 2147483647 - n))
  fits = room_left 2147483647 _ _ _ (sym (measured c) ∙ c.in-Room.is)

pub returns-in-Room : goal.returns-in-Room
returns-in-Room c =
    let a = c.args in
    let l = c.payload_of in
    let m = 2147483647 - c.in-Room.room in
    let z = fits c in
    let q : to_z w32 m ≡ pos (length (load_bytes a.s.now a.f l.result)) =
    to_z_pos w32 {n = m} (omega arith) ∙ ap pos (omega (arith, z.1.0, z.1.1)) in
    rw (
      c.outline_with.ensures,
      q,
      c.payload_plan-plan.ensures,
      c.ex_number.ensures,
    )
    (named_outlines a.s.now a.f a.ten a.args a.which l.result l.ensures z.0 z.1.0 a.version)

-- the room that the data leaves
measured_2 : (c : After-never) → let a = c.args in
    let l = c.payload_of.result in
    c.measure-left.result ≡ left_after (Room 2147483647) (load_ok a.s.now a.f l) (length (load_bytes a.s.now a.f l))
measured_2 c = rw (c.outline_with-data.ensures, c.payload_plan-plan.ensures) at c.measure-left.ensures

pub returns-in-Short : goal.returns-in-Short
returns-in-Short c =
    let a = c.args in
    let l = c.payload_of in
    let n = length (load_bytes a.s.now a.f l.result) in
    let o = load_ok a.s.now a.f l.result in
    let h = too_short 2147483647 n o (sym (measured_2 c) ∙ c.in-Short.is) in
    rw c.never.ensures
    (bad_load a.s.now a.f a.ten a.args a.which l.result l.ensures (rw (h.0, lt-leb n 2147483647 h.1)) a.version)

-- the room that the data leaves
measured_3 : (c : After-never-in-Unwritable) → let a = c.args in
    let l = c.payload_of.result in
    c.measure-left.result ≡ left_after (Room 2147483647) (load_ok a.s.now a.f l) (length (load_bytes a.s.now a.f l))
measured_3 c = rw (c.outline_with-data.ensures, c.payload_plan-plan.ensures) at c.measure-left.ensures

pub returns-in-Unwritable : goal.returns-in-Unwritable
returns-in-Unwritable c =
    let a = c.args in
    let l = c.payload_of in
    let n = length (load_bytes a.s.now a.f l.result) in
    let h = not_ok 2147483647 n (load_ok a.s.now a.f l.result) (sym (measured_3 c) ∙ c.in-Unwritable.is) in
    rw c.never-in-Unwritable.ensures (bad_load a.s.now a.f a.ten a.args a.which l.result l.ensures (rw h) a.version)

-- ?? inline: omega (arith, (fits c.before).1.1)

-- ?? inline: record { sfits = omega arith }

pub overflow_sub-room : goal.overflow_sub-room
overflow_sub-room c =
    let a = c.args in
    let l = c.payload_of.result in
    let m : c.measure-left.result ≡ left_after (Room 2147483647) (load_ok a.s.now a.f l) (length (load_bytes a.s.now a.f l)) =
    rw (c.outline_with-data.ensures, c.payload_plan-plan.ensures) at c.measure-left.ensures in
    let r = room_left 2147483647 (length (load_bytes a.s.now a.f l)) (load_ok a.s.now a.f l) c.in-Room.room (sym m ∙ c.in-Room.is) in
    omega (arith, r.1.1)
