-- `taking::put_former` meets its contract: only a PlayerTeam changes a team. Assumes nothing.
use borrow.Author.Rules.{rules}
use mathlib.Core.Path.{◌≡◌, sym, ap, ◌∙◌}
use mathlib.Core.List.{List}
use lib.IntN.{ℤ}
use Rattle.teams.specs.Teams.{Joining, put_team, joining_of}
use Rattle.back.specs.TeamBoard.{teams_before}
use Rattle.back.specs.Undo.{undone, former_in}
use Rattle.back.specs.declared.Undo.{Undo}
use Rattle.back.proofs.Cases.{Same}
use Rattle.back.proofs.Teams.{player_team_joins}
use Rattle.taking.proofs.put_former.Goals as goal

told : {undo u : Undo} (t : List ℤ) → undo ≡ u
    → teams_before (joining_of (undone u)) (former_in u) t ≡ teams_before (joining_of (undone undo)) (former_in undo) t
told t p = sym (ap (λ (u : Undo). teams_before (joining_of (undone u)) (former_in u) t) p)

pub returns-in-Team : goal.returns-in-Team
returns-in-Team c =
    let t = c.args.teams.now in
    let cid : Same c.in-Team.cid = search rules in
    c.put_team.ensures
    ∙ ap (λ (z : ℤ). put_team t z c.in-Team.former) cid
    ∙ ap (λ (j : Joining). teams_before j c.in-Team.former t) (sym (player_team_joins c.in-Team.cid c.in-Team.team))
    ∙ told t c.in-Team.is
