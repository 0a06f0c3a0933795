-- Readers with teams made of bytes.
use Rattle.std.specs.Prelude.{ℕ, ◌+◌, ◌*◌, ◌-◌, cond, List, get_or, length, set, eqb, ltb, ℤ}
use Rattle.packer.specs.Parts.{part, shown}
use Rattle.cases.specs.Cases.{number_of}
use Rattle.teams.specs.Teams.{no_teams, team_reader}
use Rattle.teams.specs.declared.TeamReader.{TeamReader}
use Rattle.alike.specs.Alike.{reader_in}

-- the team entry of a client below 128; nobody else has a team
abbrev pub team_at : ℕ → ℤ → ℤ → List ℤ
team_at c mark number = cond (ltb c 128) (set (set no_teams (2 * c) mark) (2 * c + 1) number) no_teams

-- a number is 100 less than its byte
unfoldable pub teams_in : List ℕ → List ℤ
teams_in s = cond (eqb (length s) 0) no_teams (team_at (get_or s 0 0) (number_of (get_or s 1 0)) (number_of (get_or s 2 0)))

-- fourteen bytes of a reader, then the team entry
abbrev pub team_reader_in : List ℕ → TeamReader
team_reader_in s = team_reader (reader_in s) (teams_in (shown s (part 14 (length s - 14))))
