-- `board_lines::put_teams` meets its contract. The loop's invariant: the lines of the clients below the next are put. Assumes nothing.
use mathlib.Core.Path.{refl}
use native.Mathlib.Omega.{arith}
use Rattle.teams.specs.Teams.{has_team}
use Rattle.board_lines.specs.BoardLines.{team_line}
use Rattle.board_lines.proofs.Below.{team_le, begins, room_left, onward}
use Rattle.board_lines.proofs.put_teams.Goals as goal

pub loop-c-init : goal.loop-c-init
loop-c-init c =
    let s = c in
    let a = s.args in
    let m = a.teams.now in
    begins 29 (has_team m) (team_line m) (team_le m) a.out.now a.at s.requires

pub put_team-next-requires : goal.put_team-next-requires
put_team-next-requires c =
    let t = c in
    let l = t.loop-c in
    let s = t in
    let a = s.args in
    let m = a.teams.now in
    (omega arith, room_left 29 (has_team m) (team_line m) (team_le m) a.out.now a.at s.requires l.c l.next l.out l.invariant t.loop-c-test.true)

pub loop-c-preserved : goal.loop-c-preserved
loop-c-preserved c =
    let p = c in
    let t = p in
    let l = t.loop-c in
    let s = t in
    let a = s.args in
    let m = a.teams.now in
    onward 29 (has_team m) (team_line m) (team_le m) a.out.now a.at s.requires l.c l.next l.out l.invariant t.loop-c-test.true
    (has_team m l.c) refl _ _ p.put_team-next.ensures
