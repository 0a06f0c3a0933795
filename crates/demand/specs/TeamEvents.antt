-- Lists of calls with teams and their events, the last first: a refusal 13 among them; stepping back over them; what they say of a client's team.
use Rattle.std.specs.Prelude.{Bool, false, cond, ◌||◌, List, [], ◌∷◌, ℤ, Option, Some, None}
use Rattle.state.specs.State.{same_int}
use Rattle.teams.specs.Teams.{Joining, on_joining, joining_of}
use Rattle.teams.specs.declared.TeamReader.{TeamReader}
use Rattle.calls.specs.Calls.{Call}
use Rattle.team_calls.specs.Lists.{TeamSeen, call_team, next_team}
use Rattle.back.specs.TeamBoard.{TeamBack, was, refused, team_step_back}
use Rattle.demand.specs.Events.{is13}

-- calls of which one is refused 13
unfoldable pub team_meets13 : TeamReader → List Call → Bool
team_meets13 r [] = false
team_meets13 r (c ∷ cs) = is13 (call_team r c).step.said || team_meets13 (next_team r c) cs

-- stepping back over events, in the order of the list, each step on the board that the last one left
abbrev pub team_back_one : TeamBack → TeamSeen → TeamBack
team_back_one (was b) x = team_step_back b x.seen.event x.seen.ten x.seen.former x.team
team_back_one (refused r) x = refused r

unfoldable pub team_back_over : TeamBack → List TeamSeen → TeamBack
team_back_over a [] = a
team_back_over a (x ∷ l) = team_back_over (team_back_one a x) l

-- client c's team: that of its last PlayerTeam event, or none
abbrev pub team_after_one : ℤ → Joining → Option ℤ → Option ℤ
team_after_one c j before = on_joining (λ d n. cond (same_int c d) (Some n) before) before j

unfoldable pub last_team : ℤ → List TeamSeen → Option ℤ
last_team c [] = None
last_team c (x ∷ l) = team_after_one c (joining_of x.seen.event) (last_team c l)
