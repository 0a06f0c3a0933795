-- What holds of teams, as statements; proofs/Theorems.antt proves each.
use Rattle.std.specs.Prelude.{ℕ, ◌<◌, ◌≡◌, true, false, List, length, ℤ, pos, Some, None}
use Rattle.state.specs.State.{same_int}
use Rattle.state.specs.Reading.{Event, player_old}
use Rattle.teams.specs.Teams.{team_of, is_in, put_team, good_teams, no_teams, joins, joining_of, teams_after, former_team}

-- teams that are not refused 17, with the length that the array has
pub record SoundTeams (t : List ℤ) : Type 0 where
  pub good : good_teams t ≡ true
  pub size : length t ≡ 256

abbrev pub NoTeamsSound : Type 0
NoTeamsSound = SoundTeams no_teams

-- nobody has a team there
abbrev pub NoTeamsNone : Type 0
NoTeamsNone = (c : ℤ) → team_of no_teams c ≡ None

-- an event keeps them so
abbrev pub TeamsStaySound : Type 0
TeamsStaySound = (e : Event) (t : List ℤ) → SoundTeams t → SoundTeams (teams_after e t)

-- after a PlayerTeam of client c, 0 to 127, its team is the record's
abbrev pub TeamSet : Type 0
TeamSet =
    (e : Event) (t : List ℤ) (c : ℕ) (n : ℤ) → length t ≡ 256 → c < 128 → joining_of e ≡ joins (pos c) n
    → team_of (teams_after e t) (pos c) ≡ Some n

-- and that of every other client stays
abbrev pub OthersStay : Type 0
OthersStay =
    (e : Event) (t : List ℤ) (c d n : ℤ) → joining_of e ≡ joins c n → same_int d c ≡ false → team_of (teams_after e t) d ≡ team_of t d

-- an event that is no PlayerTeam changes none; a player that leaves keeps its team
abbrev pub OldKeepsTeam : Type 0
OldKeepsTeam = (t : List ℤ) (c x y : ℤ) → teams_after (player_old c x y) t ≡ t

-- who has a team goes on having one
abbrev pub TeamsStay : Type 0
TeamsStay = (e : Event) (t : List ℤ) (c : ℤ) → length t ≡ 256 → (team_of t c ≡ None → ⊥) → team_of (teams_after e t) c ≡ None → ⊥

-- a PlayerTeam undone: its client is in the record's team, and with the former one back the teams are what they were
pub record TeamsBack (e : Event) (t : List ℤ) (c : ℕ) (n : ℤ) : Type 0 where
  pub equal : is_in (teams_after e t) c n ≡ true
  pub before : put_team (teams_after e t) (pos c) (former_team e t) ≡ t

abbrev pub TeamsGoBack : Type 0
TeamsGoBack =
    (e : Event) (t : List ℤ) (c : ℕ) (n : ℤ) → SoundTeams t → c < 128 → joining_of e ≡ joins (pos c) n → TeamsBack e t c n
