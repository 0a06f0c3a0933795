-- `taking::fits_teams` meets its contract: only a PlayerTeam is looked at. Assumes nothing.
use borrow.Author.Rules.{rules}
use mathlib.Core.Path.{◌≡◌, sym, ap, ◌∙◌}
use mathlib.Core.List.{List}
use lib.IntN.{ℤ}
use Rattle.teams.specs.Teams.{Joining, joins, joining_of}
use Rattle.back.specs.TeamBoard.{fits_teams}
use Rattle.back.specs.Undo.{undone}
use Rattle.back.specs.declared.Undo.{Undo}
use Rattle.back.proofs.Cases.{Same}
use Rattle.back.proofs.Teams.{player_team_joins}
use Rattle.taking.proofs.fits_teams.Goals as goal

told : {undo u : Undo} (t : List ℤ) → undo ≡ u → fits_teams (joining_of (undone u)) t ≡ fits_teams (joining_of (undone undo)) t
told t p = sym (ap (λ (u : Undo). fits_teams (joining_of (undone u)) t) p)

pub returns-in-Team : goal.returns-in-Team
returns-in-Team c =
    let t = c.args.teams.now in
    let cid : Same c.in-Team.cid = search rules in
    let n : Same c.in-Team.team = search rules in
    c.is_in.ensures
    ∙ (λ i. fits_teams (joins (cid i) (n i)) t)
    ∙ ap (λ (j : Joining). fits_teams j t) (sym (player_team_joins c.in-Team.cid c.in-Team.team))
    ∙ told t c.in-Team.is
