-- `board_lines::put_board` meets its contract. Assumes nothing.
use Rattle.board_lines.specs.BoardLines.{board_text}
use Rattle.board_lines.proofs.Text.{players_fit, inputs_fit, teams_fit, board_put}
use Rattle.board_lines.proofs.put_board.Goals as goal

pub put_players-past_players-requires : goal.put_players-past_players-requires
put_players-past_players-requires c =
    let t = c in
    let s = t in
    let a = s.args in
    players_fit a.board.board.tick a.board.board.entries a.board.teams a.out.now a.at s.requires _ _ t.put_tick-past_tick.ensures

pub put_inputs-past_inputs-requires : goal.put_inputs-past_inputs-requires
put_inputs-past_inputs-requires c =
    let p = c in
    let t = p in
    let s = t in
    let a = s.args in
    let e = a.board.board.entries in
    inputs_fit a.board.board.tick e a.board.teams a.out.now a.at s.requires _ _ t.put_tick-past_tick.ensures _ _
    (p.put_players-past_players.ensures e.held e.inputs)

pub put_teams-requires : goal.put_teams-requires
put_teams-requires c =
    let q = c in
    let p = q in
    let t = p in
    let s = t in
    let a = s.args in
    let e = a.board.board.entries in
    teams_fit a.board.board.tick e a.board.teams a.out.now a.at s.requires _ _ t.put_tick-past_tick.ensures _ _
    (p.put_players-past_players.ensures e.held e.inputs) _ _ (q.put_inputs-past_inputs.ensures e.marks e.xs e.ys)

pub returns : goal.returns
unfolding board_text
returns c =
    let r = c in
    let q = r in
    let p = q in
    let t = p in
    let s = t in
    let a = s.args in
    let e = a.board.board.entries in
    board_put a.board.board.tick e a.board.teams a.out.now a.at s.requires _ _ t.put_tick-past_tick.ensures _ _
    (p.put_players-past_players.ensures e.held e.inputs) _ _ (q.put_inputs-past_inputs.ensures e.marks e.xs e.ys) _ _ r.put_teams.ensures
