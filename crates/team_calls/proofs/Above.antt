-- Calls with teams are the calls without them, with the teams after their events. Assumes nothing.
use Prim.Native.Nat.{ℕ}
use mathlib.Core.Path.{◌≡◌, refl, sym, ap, ◌∙◌}
use mathlib.Core.Bool.{true}
use mathlib.Core.List.{List, [], ◌∷◌, ◌++◌, map}
use lib.IntN.{ℤ}
use Rattle.item.specs.Said.{Said, gives, more, finish, refuses}
use Rattle.state.specs.Reading.{Event}
use Rattle.state.proofs.Numbers.{picks_first}
use Rattle.teams.specs.Teams.{good_teams, teams_after, former_team, team_reader}
use Rattle.teams.specs.Laws.{SoundTeams}
use Rattle.teams.specs.declared.TeamReader.{TeamReader}
use Rattle.teams.proofs.Theorems.{teams_stay_sound}
use Rattle.calls.specs.Calls.{Call, Seen, call, next, is_pending, seen_by, seen_in, event_of, after, events}
use Rattle.calls.specs.Laws.{last_first}
use Rattle.team_calls.specs.Reading.{TeamStep, teams_said, former_said, with_teams, team_call, team_reader_after}
use Rattle.team_calls.specs.Lists.{
  team_seen,
  call_team,
  next_team,
  team_event_of,
  team_after,
  team_events,
  teams_over,
  teams_so_far,
  formers_so_far,
}
use Rattle.team_calls.specs.Laws.{Above, TeamsAbove, SoFarIsOver}

-- ---- events of two parts, the last first

pub so_far_joins : (t : List ℤ) (a b : List Seen) → teams_so_far t (a ++ b) ≡ teams_so_far (teams_so_far t b) a
unfolding teams_so_far
so_far_joins t [] b = refl
so_far_joins t (x ∷ a) b = ap (teams_after x.event) (so_far_joins t a b)

pub formers_join : (t : List ℤ) (a b : List Seen) → formers_so_far t (a ++ b) ≡ formers_so_far (teams_so_far t b) a ++ formers_so_far t b
unfolding formers_so_far
formers_join t [] b = refl
formers_join t (x ∷ a) b =
    let p = so_far_joins t a b in
    let q = formers_join t a b in
    λ i. team_seen (former_team x.event (p i)) x ∷ q i

pub so_far_is_over : SoFarIsOver
unfolding teams_so_far teams_over last_first
so_far_is_over t [] = refl
so_far_is_over t (x ∷ xs) = so_far_joins t (last_first xs) (x ∷ []) ∙ so_far_is_over (teams_after x.event t) xs

-- ---- what one call says

pub said_sound : (a : Said Event) (t : List ℤ) → SoundTeams t → SoundTeams (teams_said a t)
said_sound (gives e n) t s = teams_stay_sound e t s
said_sound more t s = s
said_sound (finish n) t s = s
said_sound (refuses k vs) t s = s

pub so_far_sound : (t : List ℤ) (xs : List Seen) → SoundTeams t → SoundTeams (teams_so_far t xs)
unfolding teams_so_far
so_far_sound t [] s = s
so_far_sound t (x ∷ xs) s = teams_stay_sound x.event (teams_so_far t xs) (so_far_sound t xs s)

module _ (by : Event → ℕ → Seen) (is : (e : Event) (n : ℕ) → (by e n).event ≡ e) (t : List ℤ) where
  said_teams : (a : Said Event) → teams_so_far t (seen_in a by) ≡ teams_said a t
  unfolding teams_so_far
  said_teams (gives e n) = ap (λ (x : Event). teams_after x t) (is e n)
  said_teams more = refl
  said_teams (finish n) = refl
  said_teams (refuses k vs) = refl

  said_formers : (a : Said Event) → map (team_seen (former_said a t)) (seen_in a by) ≡ formers_so_far t (seen_in a by)
  unfolding formers_so_far teams_so_far
  said_formers (gives e n) = ap (λ (x : Event). team_seen (former_team x t) (by e n) ∷ []) (sym (is e n))
  said_formers more = refl
  said_formers (finish n) = refl
  said_formers (refuses k vs) = refl

-- ---- one call on good teams

pub good_call_law : (r : TeamReader) (c : Call) → good_teams r.teams ≡ true → call_team r c ≡ with_teams (call r.reader c) r.teams
unfolding team_call
good_call_law r c g = sym (picks_first (good_teams r.teams) _ _ g)

-- ---- any list of calls

module _ (r : TeamReader) (c : Call) (s : SoundTeams r.teams) where
  abbrev pub said : Said Event
  said = (call r.reader c).said

  abbrev by : Event → ℕ → Seen
  by = seen_by (is_pending r.reader.scalars.pending) c.window (call r.reader c)

  abbrev pub rest : TeamReader
  rest = team_reader (next r.reader c) (teams_said said r.teams)

  pub first_left : next_team r c ≡ rest
  first_left = ap team_reader_after (good_call_law r c s.good)

  first_event : team_event_of r c ≡ formers_so_far r.teams (event_of r.reader c)
  first_event =
      ap
      (λ (x : TeamStep).
      map (team_seen x.former) (seen_in x.step.said (seen_by (is_pending r.reader.scalars.pending) c.window x.step)))
      (good_call_law r c s.good)
      ∙ said_formers by (λ e n. refl) r.teams said

  above_more : (list : List Call) → Above rest list → Above r (c ∷ list)
  unfolding team_after team_events after events
  above_more list a =
      let later = events (next r.reader c) list in
      let first = event_of r.reader c in
      let t = said_teams by (λ e n. refl) r.teams said in
      record {
        left =
            ap (λ (q : TeamReader). team_after q list) first_left
            ∙ a.left
            ∙ ap (λ (x : List ℤ). team_reader (after (next r.reader c) list) x)
            (ap (λ (x : List ℤ). teams_so_far x later) (sym t) ∙ sym (so_far_joins r.teams later first));
        same =
            (λ i. team_events (first_left i) list ++ first_event i)
            ∙ (λ i. a.same i ++ formers_so_far r.teams first)
            ∙ (λ i. formers_so_far (sym t i) later ++ formers_so_far r.teams first)
            ∙ sym (formers_join r.teams later first);
      }

pub teams_above : TeamsAbove
unfolding team_after team_events after events teams_so_far formers_so_far
teams_above r [] s = record { left = refl; same = refl }
teams_above r (c ∷ list) s = above_more r c s list (teams_above (rest r c s) list (said_sound (said r c s) r.teams s))
