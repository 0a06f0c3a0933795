-- Reading calls with teams, one behind the other.
use Rattle.std.specs.Prelude.{List, [], ◌∷◌, ◌++◌, map, ℤ, Option}
use Rattle.teams.specs.Teams.{teams_after, former_team}
use Rattle.teams.specs.declared.TeamReader.{TeamReader}
use Rattle.calls.specs.Calls.{Call, Seen, is_pending, seen_by, seen_in}
use Rattle.team_calls.specs.Reading.{TeamStep, team_call, team_reader_after}

-- an event that a call gave, and the former team beside it
pub record TeamSeen : Type 0 where
  pub seen : Seen
  pub team : Option ℤ

abbrev pub team_seen : Option ℤ → Seen → TeamSeen
team_seen m x = record { seen = x; team = m }

-- ---- any list of calls, each on the reader that the last one left

abbrev pub call_team : TeamReader → Call → TeamStep
call_team r c = team_call r c.window c.last

abbrev pub next_team : TeamReader → Call → TeamReader
next_team r c = team_reader_after (call_team r c)

-- the event of a call, if it gives one
abbrev pub team_event_of : TeamReader → Call → List TeamSeen
team_event_of r c =
    let s = call_team r c in
    map (team_seen s.former) (seen_in s.step.said (seen_by (is_pending r.reader.scalars.pending) c.window s.step))

-- the reader after the calls; their events, the last first
unfoldable pub team_after : TeamReader → List Call → TeamReader
team_after r [] = r
team_after r (c ∷ cs) = team_after (next_team r c) cs

unfoldable pub team_events : TeamReader → List Call → List TeamSeen
team_events r [] = []
team_events r (c ∷ cs) = team_events (next_team r c) cs ++ team_event_of r c

-- ---- events of calls without teams: the teams after them, and the former team beside each

-- the first first
unfoldable pub teams_over : List ℤ → List Seen → List ℤ
teams_over t [] = t
teams_over t (x ∷ xs) = teams_over (teams_after x.event t) xs

unfoldable pub with_formers : List ℤ → List Seen → List TeamSeen
with_formers t [] = []
with_formers t (x ∷ xs) = team_seen (former_team x.event t) x ∷ with_formers (teams_after x.event t) xs

-- the last first
unfoldable pub teams_so_far : List ℤ → List Seen → List ℤ
teams_so_far t [] = t
teams_so_far t (x ∷ xs) = teams_after x.event (teams_so_far t xs)

unfoldable pub formers_so_far : List ℤ → List Seen → List TeamSeen
formers_so_far t [] = []
formers_so_far t (x ∷ xs) = team_seen (former_team x.event (teams_so_far t xs)) x ∷ formers_so_far t xs
