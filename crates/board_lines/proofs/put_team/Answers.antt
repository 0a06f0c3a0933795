-- `board_lines::put_team` meets its contract. Assumes nothing.
use mathlib.Core.Path.{◌≡◌, sym, ◌∙◌}
use native.Mathlib.Omega.{arith}
use lib.IntN.{pos}
use mir.Syntax.{w32}
use mir.Val.{to_z}
use mir.Facts.{to_z-of_z}
use Rattle.packer.proofs.Joined.{nothing_put}
use Rattle.board_lines.proofs.Below.{line_for_law}
use Rattle.board_lines.proofs.put_team.Goals as goal
use Rattle.board_lines.proofs.put_team.Goals.{In_default}

-- the client's number comes back
client : (s : In_default) → to_z w32 s.args.c ≡ pos s.args.c
client s = to_z-of_z {w = w32} {z = pos s.args.c} (record { sfits = omega (arith, s.requires.0) })

pub returns-in_default : goal.returns-in_default
returns-in_default c =
    let s = c in
    let a = s.args in
    let found = rw (client s) at c.team_of.ensures in
    let e = line_for_law a.c a.teams.now _ (sym c.in_default.is ∙ found) in
    rw (← e) (omega arith, nothing_put a.out.now a.at (omega (arith, s.requires.1)))
