-- The statements of specs/Laws.antt and specs/Never.antt. Assumes nothing.
use mathlib.Core.Path.{sym, ap, subst, ◌∙◌}
use Rattle.state.specs.State.{empty_reader}
use Rattle.state.specs.Laws.{Sound}
use Rattle.state.proofs.Theorems.{empty_sound}
use Rattle.teams.specs.Teams.{team_reader, no_teams, empty_team_reader}
use Rattle.teams.specs.Laws.{SoundTeams}
use Rattle.teams.specs.declared.TeamReader.{TeamReader}
use Rattle.teams.proofs.Theorems.{no_teams_sound}
use Rattle.calls.specs.Calls.{events}
use Rattle.calls.specs.Along.{along}
use Rattle.calls.proofs.Theorems.{reached_sound, runs_are_lists}
use Rattle.team_calls.specs.Lists.{teams_so_far, formers_so_far}
use Rattle.team_calls.specs.Laws.{
  EmptyTeamsSound,
  ReachedTeamsSound,
  TeamsAbove,
  RunsAreTeamLists,
  SoFarIsOver,
}
use Rattle.team_calls.specs.Never.{VersionStays, TeamsNeverLost, TeamsStayIn1}
use Rattle.team_calls.proofs.Above as above
use Rattle.team_calls.proofs.Never as never

pub teams_above : TeamsAbove
teams_above = above.teams_above

pub so_far_is_over : SoFarIsOver
so_far_is_over = above.so_far_is_over

pub empty_teams_sound : EmptyTeamsSound
unfolding empty_team_reader
empty_teams_sound v = record { reader = empty_sound v; teams = no_teams_sound }

pub reached_teams_sound : ReachedTeamsSound
unfolding empty_team_reader
reached_teams_sound v list =
    let a = above.teams_above (empty_team_reader v) list no_teams_sound in
    let t = above.so_far_sound no_teams (events (empty_reader v) list) no_teams_sound in
    record {
      reader = subst (λ (r : TeamReader). Sound r.reader) (sym a.left) (reached_sound v list);
      teams = subst (λ (r : TeamReader). SoundTeams r.teams) (sym a.left) t;
    }

pub runs_are_team_lists : RunsAreTeamLists
runs_are_team_lists see k r bytes s =
    let run = along see k r.reader bytes in
    let l = runs_are_lists see k r.reader bytes in
    let a = above.teams_above r l.list s in
    let o = above.so_far_is_over r.teams run.seen in
    record {
      list = l.list;
      reaches =
          a.left
          ∙ (λ i. team_reader (l.left i) (teams_so_far r.teams (l.same i)))
          ∙ ap (team_reader run.reader) o;
      same = a.same ∙ ap (formers_so_far r.teams) l.same;
    }

pub version_stays : VersionStays
version_stays = never.version_stays

pub teams_never_lost : TeamsNeverLost
teams_never_lost = never.teams_never_lost

pub teams_stay_in_1 : TeamsStayIn1
teams_stay_in_1 = never.teams_stay_in_1
