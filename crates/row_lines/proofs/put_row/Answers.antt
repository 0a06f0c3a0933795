-- `row_lines::put_row` meets its contract: each arm puts the line of the event that has its number. Assumes nothing.
use Prim.Native.Nat.{◌+◌, ◌*◌}
use mathlib.Core.Path.{refl}
use native.Mathlib.Omega.{arith}
use Rattle.lines.specs.Lines.{start_word, end_word, new_word, change_word, old_word}
use Rattle.row_lines.proofs.FromRows.{line_by, plain_put, input_put, team_put, record_put}
use Rattle.row_lines.proofs.put_row.Goals as goal

pub returns-in-1 : goal.returns-in-1
unfolding line_by
returns-in-1 c =
    let m = c in
    let a = m.args in
    λ x t room. plain_put x a.i a.rows.now a.tens.now t a.out.now a.at room _ _ start_word 1 1 (8 * a.i + 2 + 1) (omega arith)
    (omega arith) (omega arith) m.in-1.in-1-own.keys1 (omega arith) refl c.put_part.ensures

pub returns-in-2 : goal.returns-in-2
unfolding line_by
returns-in-2 c =
    let m = c in
    let a = m.args in
    λ x t room. plain_put x a.i a.rows.now a.tens.now t a.out.now a.at room _ _ end_word 1 2 (8 * a.i + 2 + 1) (omega arith)
    (omega arith) (omega arith) m.in-2.in-2-own.keys2 (omega arith) refl c.put_part-in-2.ensures

pub returns-in-3 : goal.returns-in-3
unfolding line_by
returns-in-3 c =
    let m = c in
    let a = m.args in
    λ x t room. plain_put x a.i a.rows.now a.tens.now t a.out.now a.at room _ _ new_word 3 3 (8 * a.i + 2 + 3) (omega arith)
    (omega arith) (omega arith) m.in-3.in-3-own.keys3 (omega arith) refl c.put_part-in-3.ensures

pub returns-in-4 : goal.returns-in-4
unfolding line_by
returns-in-4 c =
    let m = c in
    let a = m.args in
    λ x t room. plain_put x a.i a.rows.now a.tens.now t a.out.now a.at room _ _ change_word 5 4 (8 * a.i + 2 + 5) (omega arith)
    (omega arith) (omega arith) m.in-4.in-4-own.keys4 (omega arith) refl c.put_part-in-4.ensures

pub returns-in-5 : goal.returns-in-5
unfolding line_by
returns-in-5 c =
    let m = c in
    let a = m.args in
    λ x t room. plain_put x a.i a.rows.now a.tens.now t a.out.now a.at room _ _ old_word 3 5 (8 * a.i + 2 + 3) (omega arith)
    (omega arith) (omega arith) m.in-5.in-5-own.keys5 (omega arith) refl c.put_part-in-5.ensures

pub returns-in-6 : goal.returns-in-6
returns-in-6 c =
    let m = c in
    let a = m.args in
    λ x t room. input_put x a.i a.rows.now a.tens.now t a.out.now a.at room _ _ m.in-6.in-6-own.keys6
    c.put_input.ensures

pub returns-in-8 : goal.returns-in-8
returns-in-8 c =
    let m = c in
    let a = m.args in
    λ x t room. team_put x a.i a.rows.now a.tens.now t a.out.now a.at room _ _ m.in-8.in-8-own.keys7
    c.put_team.ensures

pub returns-in_default : goal.returns-in_default
returns-in_default c =
    let m = c in
    let a = m.args in
    λ x t room. record_put x a.i a.rows.now a.tens.now t a.out.now a.at room _ _ m.in_default.in_default-own.rest
    c.put_record.ensures
