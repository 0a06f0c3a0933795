-- `stepping::step_back` meets its contract. Assumes nothing.
use mathlib.Core.Path.{ap, ◌∙◌}
use Rattle.back.specs.TeamBoard.{team_step_back, stepped_from}
use Rattle.back.specs.Undo.{undone, former_in}
use Rattle.back.specs.declared.Undo.{Undo}
use Rattle.back.proofs.Teams.{step_undone}
use Rattle.stepping.proofs.step_back.Goals as goal

pub returns : goal.returns
returns c =
    let a = c.args in
    c.take_back.ensures
    ∙ ap (λ (u : Undo). stepped_from a.board (team_step_back a.board (undone u) a.input a.former (former_in u))) c.undo_of.ensures
    ∙ ap (stepped_from a.board) (step_undone _ a.input a.former a.team a.board)
