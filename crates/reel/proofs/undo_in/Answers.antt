-- `reel::undo_in` meets its contract. Assumes nothing.
use Prim.Native.Nat.{ℕ, ◌<◌}
use mathlib.Core.Path.{◌≡◌, refl, ◌∙◌}
use mathlib.Core.List.{List}
use borrow.Author.Tests.{ne_eqb}
use lib.ListN.{get_or}
use lib.IntN.{ℤ, pos, negsuc}
use lib.Signed.{mag}
use mir.Syntax.{w32}
use mir.Val.{to_z, of_z}
use Rattle.num.proofs.Signs.{key}
use Rattle.state.proofs.Numbers.{Three, element}
use Rattle.reel.specs.Reel.{no_event, undo_in}
use Rattle.reel.proofs.undo_in.Goals as goal

-- the number of a row, from its bits
kind : (ns : List ℤ) {n : ℕ} → mag (get_or ns 0 (pos 0)) < 2147483648 → of_z w32 (get_or ns 0 (pos 0)) ≡ n → get_or ns 0 (pos 0) ≡ to_z w32 n
kind ns f e = key (get_or ns 0 (pos 0)) (record { sfits = f }) e

-- the first three numbers of its own
three : (ns : List ℤ) → mag (get_or ns 1 (pos 0)) < 2147483648 → mag (get_or ns 2 (pos 0)) < 2147483648 → mag (get_or ns 3 (pos 0)) < 2147483648
    → Three (get_or ns 1 (pos 0)) (get_or ns 2 (pos 0)) (get_or ns 3 (pos 0))
three ns f g h = record { first = element _ f; second = element _ g; third = element _ h }

pub returns-in-1 : goal.returns-in-1
unfolding undo_in
returns-in-1 c =
    let m = c in
    let ns = m.args.n in
    let k = kind ns m.t8-1.given c.in-1.in-1-own.keys1 in
    let t = three ns m.cid-1.given m.x-1.given m.y-1.given in
    rw (t.first, k)

pub returns-in-2 : goal.returns-in-2
unfolding undo_in
returns-in-2 c =
    let m = c in
    let ns = m.args.n in
    let k = kind ns m.t8-1.given c.in-2.in-2-own.keys2 in
    let t = three ns m.cid-1.given m.x-1.given m.y-1.given in
    rw (t.first, k)

pub returns-in-3 : goal.returns-in-3
unfolding undo_in
returns-in-3 c =
    let m = c in
    let ns = m.args.n in
    let k = kind ns m.t8-1.given c.in-3.in-3-own.keys3 in
    let t = three ns m.cid-1.given m.x-1.given m.y-1.given in
    rw (t.first, t.second, t.third, k)

pub returns-in-4 : goal.returns-in-4
unfolding undo_in
returns-in-4 c =
    let m = c in
    let ns = m.args.n in
    let k = kind ns m.t8-1.given c.in-4.in-4-own.keys4 in
    let t = three ns m.cid-1.given m.x-1.given m.y-1.given in
    rw (t.first, t.second, t.third, element (get_or ns 4 (pos 0)) c.result-1.given, element (get_or ns 5 (pos 0)) c.result-in-4-1.given, k)

pub returns-in-5 : goal.returns-in-5
unfolding undo_in
returns-in-5 c =
    let m = c in
    let ns = m.args.n in
    let k = kind ns m.t8-1.given c.in-5.in-5-own.keys5 in
    let t = three ns m.cid-1.given m.x-1.given m.y-1.given in
    rw (t.first, t.second, t.third, k)

pub returns-in-6 : goal.returns-in-6
unfolding undo_in
returns-in-6 c =
    let m = c in
    let ns = m.args.n in
    let k = kind ns m.t8-1.given c.in-6.in-6-own.keys6 in
    let t = three ns m.cid-1.given m.x-1.given m.y-1.given in
    c.input_row.ensures ∙ rw (t.first, t.second, k)

pub returns-in-7 : goal.returns-in-7
unfolding undo_in
returns-in-7 c =
    let m = c in
    let ns = m.args.n in
    let k = kind ns m.t8-1.given c.in-7.in-7-own.keys7 in
    rw k

pub returns-in-8 : goal.returns-in-8
unfolding undo_in
returns-in-8 c =
    let m = c in
    let ns = m.args.n in
    let k = kind ns m.t8-1.given c.in-8.in-8-own.keys8 in
    let t = three ns m.cid-1.given m.x-1.given m.y-1.given in
    c.team_row.ensures ∙ rw (t.first, t.second, t.third, element (get_or ns 4 (pos 0)) c.team_row-arg-1.given, k)

-- a number that is no event's
module _ (ns : List ℤ) where
  none : (z : ℤ) → get_or ns 0 (pos 0) ≡ z → (of_z w32 z ≡ 1 → ⊥) → (of_z w32 z ≡ 2 → ⊥) → (of_z w32 z ≡ 3 → ⊥) → (of_z w32 z ≡ 4 → ⊥)
      → (of_z w32 z ≡ 5 → ⊥) → (of_z w32 z ≡ 6 → ⊥) → (of_z w32 z ≡ 7 → ⊥) → (of_z w32 z ≡ 8 → ⊥) → no_event ≡ undo_in ns
  unfolding undo_in
  none (pos n) e p1 p2 p3 p4 p5 p6 p7 p8 = rw (e, ne_eqb n 1 p1, ne_eqb n 2 p2, ne_eqb n 3 p3, ne_eqb n 4 p4, ne_eqb n 5 p5, ne_eqb n 6 p6, ne_eqb n 7 p7, ne_eqb n 8 p8)
  none (negsuc n) e p1 p2 p3 p4 p5 p6 p7 p8 = rw e

pub returns-in_default : goal.returns-in_default
returns-in_default c =
    none c.args.n _ refl c.in_default.in_default-own.rest.0.0.0.0.0.0.0.1 c.in_default.in_default-own.rest.0.0.0.0.0.0.1 c.in_default.in_default-own.rest.0.0.0.0.0.1
    c.in_default.in_default-own.rest.0.0.0.0.1 c.in_default.in_default-own.rest.0.0.0.1 c.in_default.in_default-own.rest.0.0.1 c.in_default.in_default-own.rest.0.1 c.in_default.in_default-own.rest.1
