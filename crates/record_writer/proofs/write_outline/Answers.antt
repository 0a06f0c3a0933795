-- `record_writer::write_outline` meets its contract. Assumes nothing.
use Prim.Native.Nat.{ℕ}
use mathlib.Core.Path.{◌≡◌, ◌∙◌, ap}
use mathlib.Core.List.{List}
use lib.IntN.{ℤ}
use lib.ListN.{length}
use Rattle.fields.specs.declared.Args.{Args}
use Rattle.packer.proofs.Joined.{put_answer}
use Rattle.pieces.specs.steps.Pieces.{pieces_of, pieces_ok, pieces_bytes}
use Rattle.pieces.specs.declared.Outline.{Outline}
use Rattle.record_writer.specs.steps.Room.{left_after, room_at}
use Rattle.record_writer.specs.declared.Left.{Left}
use Rattle.record_writer.proofs.Room.{has_room, no_room, no_form}
use Rattle.record_writer.proofs.write_outline.Goals as goal

-- the room that is left, by what was measured
measured : (o : Outline) (s : List ℕ) (ten : List ℤ) (args : Args) (room left : Left) (n at : ℕ) → room ≡ room_at n at
    → left ≡ left_after room (pieces_ok s (pieces_of o ten args)) (length (pieces_bytes s (pieces_of o ten args)))
    → left ≡ left_after (room_at n at) (pieces_ok s (pieces_of o ten args)) (length (pieces_bytes s (pieces_of o ten args)))
measured o s ten args room left n at r m =
    m ∙ ap (λ (x : Left). left_after x (pieces_ok s (pieces_of o ten args)) (length (pieces_bytes s (pieces_of o ten args)))) r

pub put_pieces-requires : goal.put_pieces-requires
put_pieces-requires c =
    let a = c.args in
    let m = measured a.o a.s.now a.ten a.args _ _ (length a.out.now) a.at c.room_at.ensures c.measure-left.ensures in
    has_room a.out.now a.at (pieces_ok a.s.now (pieces_of a.o a.ten a.args)) (pieces_bytes a.s.now (pieces_of a.o a.ten a.args)) _ m _ c.in-Room.is

pub returns-in-Room : goal.returns-in-Room
returns-in-Room c =
    let a = c.args in
    let m = measured a.o a.s.now a.ten a.args _ _ (length a.out.now) a.at c.room_at.ensures c.measure-left.ensures in
    let r =
    has_room a.out.now a.at (pieces_ok a.s.now (pieces_of a.o a.ten a.args)) (pieces_bytes a.s.now (pieces_of a.o a.ten a.args)) _ m _ c.in-Room.is in
    let p = put_answer a.out.now a.at (pieces_bytes a.s.now (pieces_of a.o a.ten a.args)) r.1 _ _ c.put_pieces.ensures in
    record { answer = rw r.0 p.0; target = rw r.0 p.1 }

pub returns-in-Short : goal.returns-in-Short
returns-in-Short c =
    let a = c.args in
    let m = measured a.o a.s.now a.ten a.args _ _ (length a.out.now) a.at c.room_at.ensures c.measure-left.ensures in
    let said = no_room a.out.now a.at (pieces_ok a.s.now (pieces_of a.o a.ten a.args)) (pieces_bytes a.s.now (pieces_of a.o a.ten a.args)) _ m c.in-Short.is in
    record { answer = said.0; target = said.1 }

pub returns-in-Unwritable : goal.returns-in-Unwritable
returns-in-Unwritable c =
    let a = c.args in
    let m = measured a.o a.s.now a.ten a.args _ _ (length a.out.now) a.at c.room_at.ensures c.measure-left.ensures in
    let said = no_form a.out.now a.at (pieces_ok a.s.now (pieces_of a.o a.ten a.args)) (pieces_bytes a.s.now (pieces_of a.o a.ten a.args)) _ m c.in-Unwritable.is in
    record { answer = said.0; target = said.1 }
