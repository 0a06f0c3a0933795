-- `board_lines::put_player` meets its contract. Assumes nothing.
use mathlib.Core.List.{[], ◌∷◌}
use native.Mathlib.Omega.{arith}
use lib.IntN.{pos}
use Rattle.lines.specs.Lines.{plain_line}
use Rattle.board_lines.specs.BoardLines.{player_word}
use Rattle.board_lines.proofs.Below.{no_line}
use Rattle.board_lines.proofs.put_player.Goals as goal

pub returns-then-mark-ne1 : goal.returns-then-mark-ne1
returns-then-mark-ne1 c =
    let s = c in
    let a = s.args in
    no_line a.mark a.out.now a.at (plain_line player_word (pos a.c ∷ a.x ∷ a.y ∷ [])) (λ q. omega arith) (omega (arith, s.requires.1))

-- ?? inline: record { sfits = omega arith }
