-- The room that bytes and pieces leave. Assumes nothing.
use Prim.Native.Nat.{ℕ, ◌+◌, ◌-◌, ◌≤◌, ◌<◌}
use mathlib.Core.Path.{◌≡◌, refl, sym, ◌∙◌, ap}
use mathlib.Core.Bool.{Bool, true, false, ◌&&◌}
use mathlib.Core.List.{List, ◌++◌}
use native.Mathlib.Omega.{arith}
use lib.ListN.{length, drop, get_or, length-append}
use lib.Dec.{leb}
use borrow.Author.Tests.{le-leb, lt-leb, leb-true, leb-false}
use Rattle.num.proofs.Cases.{by_bool}
use Rattle.extensions.specs.Extensions.{id_at}
use Rattle.extensions.specs.declared.Extension.{Extension}
use Rattle.ids.proofs.Table.{id_length}
use Rattle.pieces.specs.steps.Pieces.{piece_bytes, piece_ok, pieces_bytes, pieces_ok}
use Rattle.pieces.specs.declared.Piece.{Piece}
use Rattle.pieces.specs.declared.Piece.TheVariants.{Empty}
use Rattle.pieces.proofs.Pieces.{bytes_next, ok_next}
use Rattle.record_writer.specs.steps.Room.{room_after, left_after}
use Rattle.record_writer.specs.declared.Left.{Left}
use Rattle.record_writer.specs.declared.Left.TheVariants.{Room, Short, Unwritable}

pub left_none : (l : Left) → l ≡ left_after l true 0
left_none (Room m) = let e : m - 0 ≡ m = omega arith in rw (le-leb 0 m (omega arith), e)
left_none Short = refl
left_none Unwritable = refl

module _ (m a b : ℕ) where
  two_in : room_after (room_after (Room m) a) b ≡ room_after (Room m) (a + b)
  two_in =
      by_bool (leb a m)
      (λ t.
      by_bool (leb b (m - a))
      (λ u.
      let e : m - a - b ≡ m - (a + b) = omega arith in
      let h : leb (a + b) m ≡ true = le-leb (a + b) m (omega (arith, leb-true a m t, leb-true b (m - a) u)) in
      rw (t, u, h, e))
      (λ u.
      let h : leb (a + b) m ≡ false = lt-leb (a + b) m (omega (arith, leb-true a m t, leb-false b (m - a) u)) in
      rw (t, u, h)))
      (λ t.
      let h : leb (a + b) m ≡ false = lt-leb (a + b) m (omega (arith, leb-false a m t)) in
      rw (t, h))

room_two : (l : Left) (a b : ℕ) → room_after (room_after l a) b ≡ room_after l (a + b)
room_two (Room m) a b = two_in m a b
room_two Short a b = refl
room_two Unwritable a b = refl

pub left_two : (l : Left) (p q : Bool) (a b : ℕ) → left_after (left_after l p a) q b ≡ left_after l (p && q) (a + b)
left_two l true true a b = room_two l a b
left_two l true false a b = refl
left_two l false true a b = refl
left_two l false false a b = refl

-- bytes after bytes
pub left_join : (l : Left) (p q : Bool) (a b : List ℕ) → left_after (left_after l p (length a)) q (length b) ≡ left_after l (p && q) (length (a ++ b))
left_join l p q a b = left_two l p q (length a) (length b) ∙ ap (left_after l (p && q)) (sym (length-append a b))

-- an identifier has 16 bytes
pub left_id : (l : Left) (e : Extension) → left_after l true 16 ≡ left_after l true (length (id_at e))
left_id l e = rw (id_length e)

-- what the room that is left tells
module _ (n k : ℕ) where
  pub room_left : (ok : Bool) (m : ℕ) → left_after (Room n) ok k ≡ Room m → (ok ≡ true) × ((k ≤ n) × (m ≡ n - k))
  room_left true m e =
      by_bool (leb k n)
      (λ t. let q : Room (n - k) ≡ Room m = rw t at e in (refl, (leb-true k n t, cc)))
      (λ t. let q : Short ≡ Room m = rw t at e in let z : ◌≡◌ {A = ℕ} 0 1 = cc in absurd (omega arith))
  room_left false m e = let z : ◌≡◌ {A = ℕ} 0 1 = cc in absurd (omega arith)

  pub too_short : (ok : Bool) → left_after (Room n) ok k ≡ Short → (ok ≡ true) × (n < k)
  too_short true e =
      by_bool (leb k n)
      (λ t. let q : Room (n - k) ≡ Short = rw t at e in let z : ◌≡◌ {A = ℕ} 0 1 = cc in absurd (omega arith))
      (λ t. (refl, leb-false k n t))
  too_short false e = let z : ◌≡◌ {A = ℕ} 0 1 = cc in absurd (omega arith)

  pub not_ok : (ok : Bool) → left_after (Room n) ok k ≡ Unwritable → ok ≡ false
  not_ok true e =
      by_bool (leb k n)
      (λ t. let q : Room (n - k) ≡ Unwritable = rw t at e in let z : ◌≡◌ {A = ℕ} 0 1 = cc in absurd (omega arith))
      (λ t. let q : Short ≡ Unwritable = rw t at e in let z : ◌≡◌ {A = ℕ} 0 1 = cc in absurd (omega arith))
  not_ok false e = refl

module _ (s : List ℕ) (ps : List Piece) (i : ℕ) where
  -- the room that the pieces from here on leave
  pub left_next : (l : Left)
      → left_after (left_after l (piece_ok s (get_or ps i Empty)) (length (piece_bytes s (get_or ps i Empty)))) (pieces_ok s (drop (i + 1) ps))
      (length (pieces_bytes s (drop (i + 1) ps)))
      ≡ left_after l (pieces_ok s (drop i ps)) (length (pieces_bytes s (drop i ps)))
  left_next l =
      rw (bytes_next s ps i, ok_next s ps i)
      (left_join l (piece_ok s (get_or ps i Empty)) (pieces_ok s (drop (i + 1) ps)) (piece_bytes s (get_or ps i Empty)) (pieces_bytes s (drop (i + 1) ps)))
