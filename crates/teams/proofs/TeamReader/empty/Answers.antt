-- `teams::TeamReader::empty` meets its contract. Assumes nothing.
use mathlib.Core.Path.{ap}
use Rattle.state.specs.declared.Reader.{Reader}
use Rattle.teams.specs.Teams.{team_reader, no_teams, empty_team_reader}
use Rattle.teams.proofs.TeamReader.empty.Goals as goal

pub returns : goal.returns
unfolding empty_team_reader
returns c = ap (λ (r : Reader). team_reader r no_teams) c.empty.ensures
