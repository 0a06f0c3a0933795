-- `record_writer::put_pieces` meets its contract. The loop's invariant: the pieces from `i` on
-- can be written and make of the target what all of them make of it. Assumes nothing.
use Prim.Native.Nat.{ℕ, ◌+◌, ◌≤◌}
use mathlib.Core.Path.{◌≡◌, refl, sym, ◌∙◌}
use mathlib.Core.Bool.{true, and-eq-true_iff}
use mathlib.Core.List.{List, ◌++◌}
use native.Mathlib.Omega.{arith}
use lib.ListN.{length, get_or, drop, drop_of_length-le}
use Rattle.pieces.specs.steps.Pieces.{piece_ok, piece_bytes, pieces_of, pieces_ok, pieces_bytes}
use Rattle.pieces.specs.declared.Piece.{Piece}
use Rattle.pieces.specs.declared.Piece.TheVariants.{Empty}
use Rattle.pieces.proofs.Pieces.{bytes_next, ok_next, pieces_end}
use Rattle.record_writer.specs.steps.Puts.{HasRoom}
use Rattle.record_writer.proofs.Puts.{Rest, put_past, rest_done, rest_room, rest_step}
use Rattle.record_writer.proofs.put_pieces.Goals as goal

-- the piece at the loop's head, and what follows it; the target has room for it
module _ (s : List ℕ) (ps : List Piece) (i : ℕ) (xs : List ℕ) (at : ℕ) (ys : List ℕ) (next : ℕ) (ok : pieces_ok s (drop i ps) ≡ true)
    (rest : Rest xs at (pieces_bytes s ps) ys next (pieces_bytes s (drop i ps))) where
  oks : (piece_ok s (get_or ps i Empty) ≡ true) × (pieces_ok s (drop (i + 1) ps) ≡ true)
  oks = (and-eq-true_iff (piece_ok s (get_or ps i Empty)) (pieces_ok s (drop (i + 1) ps))).0 (sym (ok_next s ps i) ∙ ok)

  here : Rest xs at (pieces_bytes s ps) ys next (piece_bytes s (get_or ps i Empty) ++ pieces_bytes s (drop (i + 1) ps))
  here = rw (bytes_next s ps i) at rest

  room : HasRoom xs at (pieces_bytes s ps) → next + length (piece_bytes s (get_or ps i Empty)) ≤ length ys
  room h = rest_room xs at (pieces_bytes s ps) h ys next (piece_bytes s (get_or ps i Empty)) (pieces_bytes s (drop (i + 1) ps)) here

pub loop-i-init : goal.loop-i-init
loop-i-init c = (c.requires.0, (refl, (refl, refl)))

pub write_piece-requires : goal.write_piece-requires
write_piece-requires c =
    let a = c.args in
    let p : c.piece_at.result ≡ get_or (pieces_of a.o a.ten a.args) c.loop-i.i Empty =
    c.piece_at.ensures in
    let l = c.loop-i in
    let ps = pieces_of a.o a.ten a.args in
    rw p (
      (oks a.s.now ps l.i a.out.now a.at l.out l.next l.invariant.0 l.invariant.1).0,
      room a.s.now ps l.i a.out.now a.at l.out l.next l.invariant.0 l.invariant.1 c.requires.1,
    )

pub loop-i-preserved : goal.loop-i-preserved
loop-i-preserved c =
    let a = c.args in
    let l = c.loop-i in
    let s = a.s.now in
    let ps = pieces_of a.o a.ten a.args in
    let p = get_or (pieces_of a.o a.ten a.args) l.i Empty in
    let q : c.piece_at.result ≡ p =
    c.piece_at.ensures in
    let w = rw q at c.write_piece.ensures in (
      (oks s ps l.i a.out.now a.at l.out l.next l.invariant.0 l.invariant.1).1,
      rest_step a.out.now a.at (pieces_bytes s (pieces_of a.o a.ten a.args)) c.requires.1 l.out l.next (piece_bytes s p)
          (pieces_bytes s (drop (l.i + 1) (pieces_of a.o a.ten a.args))) (here s ps l.i a.out.now a.at l.out l.next l.invariant.0 l.invariant.1)
          (put_past l.out l.next (piece_bytes s p) (room s ps l.i a.out.now a.at l.out l.next l.invariant.0 l.invariant.1 c.requires.1) w.answer w.target c.past-next.ensures),
    )

pub returns : goal.returns
returns c =
    let a = c.args in
    let l = c.loop-i in
    let m : length a.args.parts ≡ 16 = c.well_formed.1.1.1.0.1.1.1.0.1.0.1 in
    let e = pieces_end a.o a.ten a.args c.well_formed.1.1.0.1.0.1 m in
    let p = c.past_pieces-i-end.ensures in
    rest_done a.out.now a.at (pieces_bytes a.s.now (pieces_of a.o a.ten a.args)) c.requires.1 l.out l.next
    (rw (drop_of_length-le (pieces_of a.o a.ten a.args) {i = l.i} (omega arith)) at l.invariant.1)
