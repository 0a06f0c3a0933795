-- `board_lines::put_inputs` meets its contract. The loop's invariant: the lines of the clients below the next are put. Assumes nothing.
use mathlib.Core.List.{[]}
use native.Mathlib.Omega.{arith}
use lib.Dec.{eqb}
use lib.ListN.{get_or}
use Rattle.state.specs.State.{holds, entries_with}
use Rattle.board_lines.specs.BoardLines.{input_line}
use Rattle.board_lines.proofs.Below.{input_le, below_128, begins, room_left, onward}
use Rattle.board_lines.proofs.put_inputs.Goals as goal

pub loop-c-init : goal.loop-c-init
loop-c-init c =
    let s = c in
    let a = s.args in
    let e = entries_with [] [] [] a.held.now a.inputs.now in
    begins 138 (holds e) (input_line e) (input_le e) a.out.now a.at s.requires

pub put_input-next-requires : goal.put_input-next-requires
put_input-next-requires c =
    let t = c in
    let l = t.loop-c in
    let s = t in
    let a = s.args in
    let e = entries_with [] [] [] a.held.now a.inputs.now in
    (omega arith, room_left 138 (holds e) (input_line e) (input_le e) a.out.now a.at s.requires l.c l.next l.out l.invariant t.loop-c-test.true)

pub loop-c-preserved : goal.loop-c-preserved
loop-c-preserved c =
    let p = c in
    let t = p in
    let l = t.loop-c in
    let s = t in
    let a = s.args in
    let e = entries_with [] [] [] a.held.now a.inputs.now in
    let mark = eqb (get_or a.held.now l.c 0) 1 in
    onward 138 (holds e) (input_line e) (input_le e) a.out.now a.at s.requires l.c l.next l.out l.invariant t.loop-c-test.true
    mark (below_128 l.c mark t.loop-c-test.true) _ _ p.put_input-next.ensures
