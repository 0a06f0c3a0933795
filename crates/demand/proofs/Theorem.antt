-- Demand 3 (specs/Demand.antt): the part without teams, and above it the teams. Assumes nothing.
use Rattle.std.specs.Prelude.{None}
use Prim.Native.Nat.{ℕ}
use mathlib.Core.Path.{◌≡◌, refl, sym, ap, subst, ◌∙◌}
use mathlib.Core.Bool.{Bool, ◌||◌}
use mathlib.Core.List.{List, [], ◌∷◌, ◌++◌, map}
use lib.IntN.{ℤ, pos}
use Rattle.kinds.specs.declared.Version.{Version}
use Rattle.state.specs.State.{empty_reader}
use Rattle.state.specs.declared.Reader.{Reader}
use Rattle.teams.specs.Teams.{team_of, no_teams, team_reader, empty_team_reader}
use Rattle.teams.specs.Laws.{SoundTeams}
use Rattle.teams.specs.declared.TeamReader.{TeamReader}
use Rattle.teams.proofs.Theorems.{no_teams_sound, no_teams_none}
use Rattle.calls.specs.Calls.{Call, Seen, after, events}
use Rattle.team_calls.specs.Lists.{TeamSeen, next_team, team_after, team_events, teams_so_far, formers_so_far}
use Rattle.team_calls.proofs.Above.{teams_above, said_sound, good_call_law, first_left, rest, said, so_far_sound}
use Rattle.back.specs.Board.{board_of}
use Rattle.back.specs.Back as back
use Rattle.back.specs.TeamBoard.{team_board_of, was}
use Rattle.demand.specs.Events.{is13, meets13, back_over}
use Rattle.demand.specs.TeamEvents.{team_meets13, team_back_over}
use Rattle.demand.specs.Boards.{Told, BoardKept}
use Rattle.demand.specs.Demand.{BoardTold, Demand3}
use Rattle.demand.proofs.Boards.{after_append, boards_kept}
use Rattle.demand.proofs.Teams.{teams_had_back, teams_told, plain_events}

pub team_after_append : (r : TeamReader) (a b : List Call) → team_after r (a ++ b) ≡ team_after (team_after r a) b
unfolding team_after
team_after_append r [] b = refl
team_after_append r (c ∷ a) b = team_after_append (next_team r c) a b

-- a refusal 13 is one of the calls without teams
pub meets_same : (cs : List Call) (r : TeamReader) → SoundTeams r.teams → team_meets13 r cs ≡ meets13 r.reader cs
unfolding team_meets13 meets13
meets_same [] r s = refl
meets_same (c ∷ cs) r s =
    (λ i. is13 (good_call_law r c s.good i).step.said || team_meets13 (first_left r c s i) cs)
    ∙ ap (λ (b : Bool). is13 (said r c s) || b) (meets_same cs (rest r c s) (said_sound (said r c s) r.teams s))

-- ---- from an empty reader r and teams t of which none is anyone's

module _ (v : Version) (t : List ℤ) (sound : SoundTeams t) (before between : List Call) (plain : BoardKept v before between) where
  abbrev start : TeamReader
  start = team_reader (empty_reader v) t

  abbrev middle : Reader
  middle = after (empty_reader v) before

  abbrev since : List Seen
  since = events middle between

  abbrev held : List ℤ
  held = teams_so_far t (events (empty_reader v) before)

  sound_held : SoundTeams held
  sound_held = so_far_sound t (events (empty_reader v) before) sound

  to_middle : team_after start before ≡ team_reader middle held
  to_middle = (teams_above start before sound).left

  to_end : team_after start (before ++ between) ≡ team_reader (after middle between) (teams_so_far held since)
  to_end =
      team_after_append start before between ∙ ap (λ (r : TeamReader). team_after r between) to_middle
      ∙ (teams_above (team_reader middle held) between sound_held).left

  events_since : team_events (team_after start before) between ≡ formers_so_far held since
  events_since = ap (λ (r : TeamReader). team_events r between) to_middle ∙ (teams_above (team_reader middle held) between sound_held).same

  plain_back : back_over (back.was (board_of (after middle between))) since ≡ back.was (board_of middle)
  plain_back = ap (λ (r : Reader). back_over (back.was (board_of r)) since) (sym (after_append (empty_reader v) before between)) ∙ plain.back

  had_back : team_back_over (was (team_board_of (team_after start (before ++ between)))) (team_events (team_after start before) between)
      ≡ was (team_board_of (team_after start before))
  had_back =
      (λ i. team_back_over (was (team_board_of (to_end i))) (events_since i))
      ∙ teams_had_back held sound_held since (board_of (after middle between)) (board_of middle) plain_back
      ∙ ap (λ (r : TeamReader). was (team_board_of r)) (sym to_middle)

  abbrev all : List Seen
  all = events (empty_reader v) (before ++ between)

  told_plain : Told (after (empty_reader v) (before ++ between)).entries (map (λ (x : TeamSeen). x.seen) (formers_so_far t all))
  told_plain = subst (Told (after (empty_reader v) (before ++ between)).entries) (sym (plain_events t all)) plain.told

  told : ((c : ℕ) → team_of t (pos c) ≡ None) → BoardTold (team_after start (before ++ between)) (team_events start (before ++ between))
  told none =
      let a = teams_above start (before ++ between) sound in
      subst {A = TeamReader × List TeamSeen} (λ p. BoardTold p.0 p.1) (λ i. (sym a.left i, sym a.same i))
      (record { players = told_plain; teams = λ c h. teams_told t sound all c h (none c) })

pub demand_3 : Demand3
unfolding empty_team_reader
demand_3 v before between quiet =
    let plain = boards_kept v before between (sym (meets_same (before ++ between) (team_reader (empty_reader v) no_teams) no_teams_sound) ∙ quiet) in
    record {
      back = had_back v no_teams no_teams_sound before between plain;
      told = told v no_teams no_teams_sound before between plain (λ c. no_teams_none (pos c));
    }
