-- What the parts of the call promise to each other.
use Rattle.std.specs.Prelude.{ℕ, ◌+◌, ◌≤◌, ◌<◌, ◌≡◌, true, List, [], length, ℤ, pos, Option}
use Rattle.item.specs.declared.Record.{Record}
use Rattle.kinds.specs.declared.Version.{Version}
use Rattle.teams.specs.Teams.{team_of}
use Rattle.choice.specs.Chosen.{bytes_of}
use Rattle.choosing.specs.Choice.{choice_is, can_write, team_in}

-- the choice can be written in this version, and there is room for it
pub record Ready (v : Version) (c : Option Record) (xs : List ℕ) (at : ℕ) : Type 0 where
  pub writable : can_write v c ≡ true
  pub room : at + length (bytes_of (choice_is c)) ≤ length xs

-- the version has the wanted teams
abbrev pub TeamsIn : Version → List ℤ → Type 0
TeamsIn v wt = (c : ℕ) → c < 128 → team_in v (team_of wt (pos c)) ≡ true
