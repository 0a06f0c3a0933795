-- `rewind_linked::read_all` meets its contract. Assumes nothing.
use mathlib.Core.Path.{◌≡◌, ap, ◌∙◌}
use Rattle.count.specs.Count.{version_if}
use Rattle.teams.specs.Teams.{empty_team_reader}
use Rattle.rewind_linked.proofs.Whole.{read_whole, empty_teams}
use Rattle.rewind_linked.proofs.read_all.Goals as goal

pub returns : goal.returns
returns c =
    let e = c in
    let a = e.args in
    let r : e.empty.result ≡ empty_team_reader (version_if a.second) = e.empty.ensures ∙ ap empty_team_reader e.version_if.ensures in
    rw (r, read_whole (version_if a.second) a.rows.now a.inputs.now a.formers.now 18446744073709551615 a.body.now _, empty_teams (version_if a.second)) at c.read_kept.ensures
