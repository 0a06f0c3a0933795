-- `result_lines::write_list` meets its contract. Assumes nothing.
use Prim.Native.Nat.{◌+◌, ◌≤◌}
use mathlib.Core.Path.{refl, sym, ◌∙◌}
use borrow.Author.Tests.{leb-true}
use lib.ListN.{length}
use Rattle.lines.proofs.Texts.{line_put}
use Rattle.result_lines.specs.ResultLines.{list_text, longest_list}
use Rattle.result_lines.proofs.Order.{ranked_few, ranked}
use Rattle.result_lines.proofs.write_list.Goals as goal
use Rattle.result_lines.proofs.write_list.Goals.{After-put_text-arg-1, After-slice_known-then-has_longest-1}

-- there is room
room : (c : After-put_text-arg-1) → let a = c.args in a.at + longest_list ≤ length a.out.now
room c =
    let a = c.args in
    leb-true (a.at + longest_list) (length a.out.now) (sym c.has_longest.ensures ∙ c.if-has_longest.true)

pub put_text-requires : goal.put_text-requires
put_text-requires c =
    let i = c in
    (ranked_few _ _ _ _ _ _ _ _ i.rank-count.ensures, room i)

-- there is room
room_2 : (c : After-slice_known-then-has_longest-1) → let a = c.args in a.at + longest_list ≤ length a.out.now
room_2 c =
    let a = c.args in
    leb-true (a.at + longest_list) (length a.out.now) (sym c.has_longest.ensures ∙ c.if-has_longest.true)

pub returns-then-has_longest : goal.returns-then-has_longest
returns-then-has_longest c =
    let p = c in
    let i = p in
    let k = i in
    let a = k.args in
    let r = k.rank-count.ensures in
    let e = ranked _ _ _ _ _ _ _ _ r refl refl refl in
    let w =
    line_put longest_list a.out.now a.at (list_text r.ordered a.list.others a.ending) (room_2 i) _ _ (rw e at p.put_text.ensures) in
    record { ordered = r.ordered; order = r.order; answer = w.0; target = w.1 }
