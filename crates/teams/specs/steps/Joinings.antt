-- What the code says of a PlayerTeam record.
use Rattle.std.specs.Prelude.{Option, Some, None}
use Rattle.teams.specs.Teams.{Joining, joins, nobody}
use Rattle.teams.specs.declared.PlayerTeam.{PlayerTeam}

abbrev pub joining_is : Option PlayerTeam → Joining
joining_is (Some j) = joins j.cid j.team
joining_is None = nobody
