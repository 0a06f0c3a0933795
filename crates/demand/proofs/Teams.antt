-- Teams over lists of events, the last first: had back by stepping back, and told by the last PlayerTeam. Assumes nothing.
use Rattle.std.specs.Prelude.{Some, None}
use Prim.Native.Nat.{ℕ, ◌<◌}
use mathlib.Core.Path.{◌≡◌, refl, sym, ap, ◌∙◌}
use mathlib.Core.Bool.{Bool, true, false, cond}
use mathlib.Core.List.{List, [], ◌∷◌, map}
use native.Mathlib.Omega.{arith}
use lib.Dec.{ltb}
use lib.ListN.{length}
use lib.IntN.{ℤ, pos, negsuc}
use borrow.Author.Tests.{ltb-true}
use Rattle.refusal.specs.declared.Refusal.{Refusal}
use Rattle.state.specs.State.{same_int}
use Rattle.state.specs.Reading.{Event}
use Rattle.state.proofs.Numbers.{picks_first}
use Rattle.teams.specs.Teams.{team_of, Joining, joins, nobody, joining_of, teams_after, former_team}
use Rattle.teams.specs.Laws.{SoundTeams}
use Rattle.teams.proofs.Theorems.{teams_stay_sound, team_set, others_stay, teams_go_back}
use Rattle.calls.specs.Calls.{Seen}
use Rattle.team_calls.specs.Lists.{TeamSeen, teams_so_far, formers_so_far}
use Rattle.team_calls.proofs.Above.{so_far_sound}
use Rattle.back.specs.Board.{good_board}
use Rattle.back.specs.Back.{Back, take_off, step_back}
use Rattle.back.specs.Back as back
use Rattle.back.specs.TeamBoard.{team_board, good_team_board, TeamBack, was, beside, fits_teams, teams_before, take_off_team, team_step_back}
use Rattle.back.specs.declared.Board.{Board}
use Rattle.demand.specs.Events.{back_over}
use Rattle.demand.specs.TeamEvents.{team_back_over, team_after_one, last_team}
use Rattle.demand.proofs.Tests.{same_true}

-- ---- one event

-- its PlayerTeam, if it is one, fits the teams after it, and the teams before it return
record Restored (e : Event) (t : List ℤ) (j : Joining) : Type 0 where
  fits : fits_teams j (teams_after e t) ≡ true
  before : teams_before j (former_team e t) (teams_after e t) ≡ t

module _ (e : Event) (t : List ℤ) where
  of_client_law : SoundTeams t → (c : ℕ) (n : ℤ) (b : Bool) → ltb c 128 ≡ b → joining_of e ≡ joins (pos c) n → Restored e t (joins (pos c) n)
  unfolding teams_after
  of_client_law sound c n true h q =
      let w = teams_go_back e t c n sound (ltb-true c 128 h) q in
      record { fits = sym (picks_first (ltb c 128) _ _ h) ∙ w.equal; before = w.before }
  of_client_law sound c n false h q = record { fits = rw h; before = rw (q, h) }

  restored : SoundTeams t → (j : Joining) → joining_of e ≡ j → Restored e t j
  unfolding teams_after
  restored sound (joins (pos c) n) q = of_client_law sound c n (ltb c 128) refl q
  restored sound (joins (negsuc c) n) q = record { fits = refl; before = rw q }
  restored sound nobody q = record { fits = refl; before = rw q }

  -- where one step back without teams gives a board, so does one with teams, and the teams are those before the event
  module _ (sound : SoundTeams t) (b a : Board) (ten former : List ℤ) where
    taken : take_off e ten former b.tick b.entries ≡ back.was a
        → take_off_team e ten former (former_team e t) (team_board b (teams_after e t)) ≡ was (team_board a t)
    unfolding take_off_team
    taken q =
        let w = restored sound (joining_of e) refl in
        rw (w.fits, w.before, q)

    by_good : (g : Bool) → good_board b ≡ g → step_back b e ten former ≡ back.was a
        → team_step_back (team_board b (teams_after e t)) e ten former (former_team e t) ≡ was (team_board a t)
    unfolding step_back team_step_back good_team_board
    by_good true h q = rw (h, (teams_stay_sound e t sound).good) (taken (rw h at q))
    by_good false h q = let z : ◌≡◌ {A = ℕ} 0 1 = cc in absurd (omega arith)

    stepped : step_back b e ten former ≡ back.was a
        → team_step_back (team_board b (teams_after e t)) e ten former (former_team e t) ≡ was (team_board a t)
    stepped q = by_good (good_board b) refl q

-- ---- events, the last first

-- a refusal stays one
stays_refused : (r : Refusal) (xs : List Seen) → back_over (back.refused r) xs ≡ back.refused r
unfolding back_over
stays_refused r [] = refl
stays_refused r (x ∷ xs) = stays_refused r xs

never : {A : Type 0} (r : Refusal) (xs : List Seen) (a : Board) → back_over (back.refused r) xs ≡ back.was a → A
never r xs a q = let h = stays_refused r xs in let z : ◌≡◌ {A = ℕ} 0 1 = cc in absurd (omega arith)

-- the first event, by what one step back without teams gives, and the others
first_back : (t : List ℤ) → SoundTeams t → (x : Seen) (xs : List Seen) (b a : Board) (k : Back) → step_back b x.event x.ten x.former ≡ k
    → back_over k xs ≡ back.was a
    → ((m : Board) → back_over (back.was m) xs ≡ back.was a
    → team_back_over (was (team_board m (teams_so_far t xs))) (formers_so_far t xs) ≡ was (team_board a t))
    → team_back_over (team_step_back (team_board b (teams_after x.event (teams_so_far t xs))) x.event x.ten x.former (former_team x.event (teams_so_far t xs)))
    (formers_so_far t xs)
    ≡ was (team_board a t)
first_back t s x xs b a (back.was m) h q others =
    ap (λ (y : TeamBack). team_back_over y (formers_so_far t xs)) (stepped x.event (teams_so_far t xs) (so_far_sound t xs s) b m x.ten x.former h)
    ∙ others m q
first_back t s x xs b a (back.refused r) h q others = never r xs a q

pub teams_had_back : (t : List ℤ) → SoundTeams t → (xs : List Seen) (b a : Board) → back_over (back.was b) xs ≡ back.was a
    → team_back_over (was (team_board b (teams_so_far t xs))) (formers_so_far t xs) ≡ was (team_board a t)
unfolding team_back_over back_over teams_so_far formers_so_far
teams_had_back t s [] b a q = ap (λ (y : Back). beside t y) q
teams_had_back t s (x ∷ xs) b a q =
    first_back t s x xs b a (step_back b x.event x.ten x.former) refl q (λ m e. teams_had_back t s xs m a e)

-- ---- the team of a client is that of its last PlayerTeam

module _ (e : Event) (t : List ℤ) (size : length t ≡ 256) (c : ℕ) (h : c < 128) where
  by_same : (d n : ℤ) (b : Bool) → same_int (pos c) d ≡ b → joining_of e ≡ joins d n
      → team_of (teams_after e t) (pos c) ≡ cond b (Some n) (team_of t (pos c))
  by_same d n true s q = team_set e t c n size h (q ∙ ap (λ (z : ℤ). joins z n) (sym (same_true (pos c) d s)))
  by_same d n false s q = others_stay e t d (pos c) n q s

  one_told : (j : Joining) → joining_of e ≡ j → team_of (teams_after e t) (pos c) ≡ team_after_one (pos c) j (team_of t (pos c))
  unfolding teams_after
  one_told (joins d n) q = by_same d n (same_int (pos c) d) refl q
  one_told nobody q = rw q

pub teams_told : (t : List ℤ) → SoundTeams t → (xs : List Seen) (c : ℕ) → c < 128 → team_of t (pos c) ≡ None
    → team_of (teams_so_far t xs) (pos c) ≡ last_team (pos c) (formers_so_far t xs)
unfolding teams_so_far formers_so_far last_team
teams_told t s [] c h e = e
teams_told t s (x ∷ xs) c h e =
    one_told x.event (teams_so_far t xs) (so_far_sound t xs s).size c h (joining_of x.event) refl
    ∙ ap (team_after_one (pos c) (joining_of x.event)) (teams_told t s xs c h e)

-- the events without the former teams
pub plain_events : (t : List ℤ) (xs : List Seen) → map (λ (x : TeamSeen). x.seen) (formers_so_far t xs) ≡ xs
unfolding formers_so_far
plain_events t [] = refl
plain_events t (x ∷ xs) = ap (λ (l : List Seen). x ∷ l) (plain_events t xs)
