-- The statements of specs/Laws.antt. Assumes nothing.
use mathlib.Core.Path.{◌≡◌, refl, ap, ◌∙◌}
use mathlib.Core.List.{List, [], ◌∷◌, ◌++◌}
use lib.IntN.{ℤ}
use Rattle.kinds.specs.declared.Version.{Version}
use Rattle.teams.specs.Teams.{teams_after, team_reader, empty_team_reader}
use Rattle.teams.specs.Laws.{SoundTeams}
use Rattle.teams.specs.declared.TeamReader.{TeamReader}
use Rattle.teams.proofs.Theorems.{no_teams_sound, teams_stay_sound}
use Rattle.calls.specs.Calls.{Call, Seen}
use Rattle.team_calls.specs.Lists.{next_team, team_event_of, team_after, teams_over, with_formers}
use Rattle.demand.proofs.Theorem.{team_after_append}
use Rattle.reel.specs.Reel.{empty_reel}
use Rattle.reel.specs.declared.Reel.{Reel}
use Rattle.windows.specs.Windows.{window_of, is_last_window}
use Rattle.reeling.specs.Reeling.{keep_all, reel_after}
use Rattle.reeling.proofs.Theorems.{kept_calls_are_lists}
use Rattle.rewind_laws.proofs.Theorems.{rewinds_to_tick}
use Rattle.rewind_turns.specs.Turns.{turn_kept}
use Rattle.rewind_turns.specs.Laws.{Left, turns_after, TurnsAreCalls, TurnsRewind}

reel_append : (l : Reel) (r : TeamReader) (a b : List Call) → reel_after l r (a ++ b) ≡ reel_after (reel_after l r a) (team_after r a) b
unfolding reel_after team_after
reel_append l r [] b = refl
reel_append l r (c ∷ a) b = reel_append (keep_all l (team_event_of r c)) (next_team r c) a b

over_sound : (t : List ℤ) (xs : List Seen) → SoundTeams t → SoundTeams (teams_over t xs)
unfolding teams_over
over_sound t [] g = g
over_sound t (x ∷ xs) g = over_sound (teams_after x.event t) xs (teams_stay_sound x.event t g)

pub turns_are_calls : TurnsAreCalls
unfolding turns_after team_after reel_after
turns_are_calls [] s g = record { list = []; left = refl; reel = refl }
turns_are_calls (h ∷ hs) s g =
    let t = s.reader.teams in
    let run = turn_kept h.most s.reader s.reel h.bytes h.ended in
    let one = kept_calls_are_lists h.most s.reel s.reader (window_of h.bytes) (is_last_window h.ended h.bytes) g in
    let next : Left = record { reader = team_reader run.reader (teams_over t run.seen); reel = keep_all s.reel (with_formers t run.seen) } in
    let rest = turns_are_calls hs next (over_sound t run.seen g) in
    record {
      list = one.list ++ rest.list;
      left = team_after_append s.reader one.list rest.list ∙ ap (λ (r : TeamReader). team_after r rest.list) one.left ∙ rest.left;
      reel =
          reel_append s.reel s.reader one.list rest.list
          ∙ (λ i. reel_after (one.reel i) (one.left i) rest.list) ∙ rest.reel;
    }

empty_sound : (v : Version) → SoundTeams (empty_team_reader v).teams
unfolding empty_team_reader
empty_sound v = no_teams_sound

pub turns_rewind : TurnsRewind
unfolding team_after
turns_rewind v hs t =
    let c = turns_are_calls hs (record { reader = empty_team_reader v; reel = empty_reel }) (empty_sound v) in
    record { list = c.list; left = c.left; rewinds = rw (c.left, c.reel) at ((rewinds_to_tick v [] c.list).rewinds t) }
