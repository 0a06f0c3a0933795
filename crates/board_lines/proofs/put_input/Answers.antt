-- `board_lines::put_input` meets its contract. Assumes nothing.
use mathlib.Core.List.{◌∷◌}
use native.Mathlib.Omega.{arith}
use lib.IntN.{pos}
use Rattle.state.specs.State.{ten_of}
use Rattle.lines.specs.Lines.{input_word, plain_line}
use Rattle.board_lines.proofs.Below.{no_line}
use Rattle.board_lines.proofs.put_input.Goals as goal

pub returns-then-held-ne1 : goal.returns-then-held-ne1
returns-then-held-ne1 c =
    let s = c in
    let a = s.args in
    no_line a.held a.out.now a.at (plain_line input_word (pos a.c ∷ ten_of a.inputs.now a.c)) (λ q. omega arith)
    (omega (arith, s.requires.1))
