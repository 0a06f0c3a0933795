-- `board_lines::put_players` meets its contract. The loop's invariant: the lines of the clients below the next are put. Assumes nothing.
use mathlib.Core.Path.{◌≡◌}
use mathlib.Core.List.{[]}
use native.Mathlib.Omega.{arith}
use lib.Dec.{eqb}
use lib.ListN.{get_or}
use lib.IntN.{pos}
use mir.Syntax.{w32}
use mir.Val.{to_z, of_z}
use Rattle.state.specs.State.{present, entries_with}
use Rattle.state.proofs.Numbers.{element}
use Rattle.board_lines.specs.BoardLines.{player_line}
use Rattle.board_lines.proofs.Below.{player_le, below_128, begins, room_left, onward}
use Rattle.board_lines.proofs.put_players.Goals as goal

pub loop-c-init : goal.loop-c-init
loop-c-init c =
    let s = c in
    let a = s.args in
    let e = entries_with a.marks.now a.xs.now a.ys.now [] [] in
    begins 43 (present e) (player_line e) (player_le e) a.out.now a.at s.requires

pub put_player-next-requires : goal.put_player-next-requires
put_player-next-requires c =
    let t = c in
    let l = t.loop-c in
    let s = t in
    let a = s.args in
    let e = entries_with a.marks.now a.xs.now a.ys.now [] [] in
    (omega arith, room_left 43 (present e) (player_line e) (player_le e) a.out.now a.at s.requires l.c l.next l.out l.invariant t.loop-c-test.true)

pub loop-c-preserved : goal.loop-c-preserved
loop-c-preserved c =
    let p = c in
    let k3 = p in
    let k2 = k3 in
    let t = k2 in
    let l = t.loop-c in
    let s = t in
    let a = s.args in
    let e = entries_with a.marks.now a.xs.now a.ys.now [] [] in
    let mark = eqb (get_or a.marks.now l.c 0) 1 in
    let x = get_or a.xs.now l.c (pos 0) in
    let y = get_or a.ys.now l.c (pos 0) in
    let ex : to_z w32 (of_z w32 x) ≡ x = element x k2.put_player-arg-in-loop-c-1.given in
    let ey : to_z w32 (of_z w32 y) ≡ y = element y k3.put_player-arg-in-loop-c-2-1.given in
    onward 43 (present e) (player_line e) (player_le e) a.out.now a.at s.requires l.c l.next l.out l.invariant t.loop-c-test.true
    mark (below_128 l.c mark t.loop-c-test.true) _ _ (rw (ex, ey) at p.put_player-next.ensures)
