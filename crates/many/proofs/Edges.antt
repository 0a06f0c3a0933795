-- Many calls on a bad reader, on a closed one and on one that can be read; with room, the calls themselves. Assumes nothing.
use Prim.Native.Nat.{ℕ, zero, suc, ◌-◌, ◌<◌}
use mathlib.Core.Path.{◌≡◌, refl, sym, ap, subst, ◌∙◌}
use mathlib.Core.Bool.{Bool, true, false, cond, ◌&&◌, and-true}
use mathlib.Core.List.{List, [], ◌∷◌}
use native.Mathlib.Omega.{arith}
use lib.ListN.{drop}
use lib.IntN.{ℤ}
use Rattle.refusal.specs.declared.Refusal.{Refusal}
use Rattle.refusal.specs.declared.Refusal.TheVariants.{BadState, Closed}
use Rattle.item.specs.Said.{refusing}
use Rattle.state.specs.State.{good_reader}
use Rattle.state.specs.Reading.{Step, step_of, is_closed, open_call, good_call, read_call, reader_after}
use Rattle.state.specs.steps.Parts.{memory_of}
use Rattle.state.specs.declared.Reader.{Reader}
use Rattle.state.proofs.Every.{by_cond}
use Rattle.state.proofs.Numbers.{picks_first, picks_second}
use Rattle.teams.specs.Teams.{good_teams, teams_after, good_team_reader}
use Rattle.teams.specs.Laws.{SoundTeams}
use Rattle.teams.specs.declared.TeamReader.{TeamReader}
use Rattle.teams.proofs.Theorems.{teams_stay_sound}
use Rattle.calls.specs.Calls.{is_pending, Seen, seen_by}
use Rattle.calls.specs.Along.{Halt, is_full, Run, stopped, before, on_said, along, calls}
use Rattle.team_calls.specs.Lists.{teams_over}
use Rattle.rows.specs.Rows.{room}
use Rattle.many.specs.Many.{refused_by, refused_calls, team_calls, many_calls, ManyIs}
use Rattle.many.specs.steps.Stores.{Room, not_read}
use Rattle.many.specs.declared.ManyAnswer.{ManyAnswer}
use Rattle.many.specs.declared.Stop.TheVariants as stops
use Rattle.many.proofs.Runs.{begun, ended}

pub room_there : (n : ℕ) (rows tens : List ℤ) → n ≡ room rows tens → Room n rows tens
room_there n rows tens e = record { rows = omega arith; tens = omega arith }

module _ (n : ℕ) (r : TeamReader) (w : List ℕ) (last : Bool) (rows tens : List ℤ) where
  pub bad_reader : good_team_reader r ≡ false → ManyIs (many_calls n r w last) r.teams rows tens (not_read (stops.Refused BadState) r) rows tens
  unfolding many_calls
  bad_reader g = rw g (ended (stops.Refused BadState) _ 0 0 r.reader refl refl (begun (refused_by BadState r.reader) r.teams rows tens))

  pub closed_reader : good_team_reader r ≡ true → is_closed r.reader.scalars.standing ≡ true
      → ManyIs (many_calls n r w last) r.teams rows tens (not_read (stops.Refused Closed) r) rows tens
  unfolding many_calls
  closed_reader g c =
      subst (λ (run : Run). ManyIs run r.teams rows tens (not_read (stops.Refused Closed) r) rows tens)
      (picks_first (is_closed r.reader.scalars.standing) _ _ c ∙ picks_first (good_team_reader r) _ _ g)
      (ended (stops.Refused Closed) _ 0 0 r.reader refl refl (begun (refused_by Closed r.reader) r.teams rows tens))

module _ (r : TeamReader) (w : List ℕ) (last : Bool) (rows tens rows₁ tens₁ : List ℤ) (answer : ManyAnswer) (n : ℕ) where
  pub open_reader : n ≡ room rows tens → good_team_reader r ≡ true → is_closed r.reader.scalars.standing ≡ false
      → ManyIs (calls n r.reader w last) r.teams rows tens answer rows₁ tens₁
      → ManyIs (many_calls (room rows tens) r w last) r.teams rows tens answer rows₁ tens₁
  unfolding many_calls
  open_reader e g c t =
      subst (λ (run : Run). ManyIs run r.teams rows tens answer rows₁ tens₁)
      (ap (λ (k : ℕ). calls k r.reader w last) e ∙ picks_second (is_closed r.reader.scalars.standing) _ _ c ∙ picks_first (good_team_reader r) _ _ g)
      t

-- with room for a call it is the first call that refuses 17 and 18
module _ (k : ℕ) (r : Reader) (w : List ℕ) (last : Bool) where
  abbrev follow : Step → Run
  follow t = on_said t.said (λ e n. before (seen_by (is_pending r.scalars.pending) w t e n) (calls k (reader_after t) (drop n w) last)) (reader_after t)

  abbrev refuses : Refusal → Step
  refuses why = step_of (refusing why) r.scalars (memory_of r.entries)

  tested_first : (good teams closed : Bool) (t : Step)
      → let run = follow (cond good (cond closed (refuses Closed) t) (refuses BadState)) in
      cond (good && teams) (cond closed (refused_by Closed r) run) (refused_by BadState r) ≡ cond teams run (refused_by BadState r)
  tested_first true true true t = refl
  tested_first true true false t = refl
  tested_first true false closed t = refl
  tested_first false true closed t = refl
  tested_first false false closed t = refl

  room_for_one : (teams : Bool)
      → cond (good_reader r && teams) (cond (is_closed r.scalars.standing) (refused_by Closed r) (calls (suc k) r w last)) (refused_by BadState r)
      ≡ cond teams (calls (suc k) r w last) (refused_by BadState r)
  unfolding along read_call good_call
  room_for_one teams =
      tested_first (good_reader r) teams (is_closed r.scalars.standing) (open_call r.scalars (memory_of r.entries) w last)

-- on a reader without teams
pub plain_room : (n : ℕ) (r : Reader) (w : List ℕ) (last : Bool) → 0 < n
    → cond (good_reader r) (cond (is_closed r.scalars.standing) (refused_by Closed r) (calls n r w last)) (refused_by BadState r) ≡ calls n r w last
plain_room n r w last h =
    let e : n ≡ suc (n - 1) = omega (arith, h) in
    let run = cond (is_closed r.scalars.standing) (refused_by Closed r) (calls (suc (n - 1)) r w last) in
    rw e
    (ap (λ (b : Bool). cond b run (refused_by BadState r)) (sym (and-true (good_reader r))) ∙ room_for_one (n - 1) r w last true)

pub with_room : (n : ℕ) (r : TeamReader) (w : List ℕ) (last : Bool) → 0 < n → many_calls n r w last ≡ team_calls n r w last
unfolding many_calls team_calls good_team_reader
with_room n r w last h =
    let e : n ≡ suc (n - 1) = omega (arith, h) in
    rw e (room_for_one (n - 1) r.reader w last (good_teams r.teams))

-- where the teams are good, the calls themselves
pub good_teams_law : (n : ℕ) (r : TeamReader) (w : List ℕ) (last : Bool) → good_teams r.teams ≡ true → team_calls n r w last ≡ calls n r.reader w last
unfolding team_calls
good_teams_law n r w last g = sym (picks_first (good_teams r.teams) _ _ g)

-- at most none
pub no_calls : (r : TeamReader) (w : List ℕ) (last : Bool) → team_calls 0 r w last ≡ stopped is_full 0 r.reader
unfolding team_calls along
no_calls r w last = by_cond (λ (run : Run). run ≡ stopped is_full 0 r.reader) (good_teams r.teams) (λ _. refl) (λ _. refl)

-- what holds of calls without teams and of none
pub by_teams : (P : Run → Type 0) (n : ℕ) (r : TeamReader) (w : List ℕ) (last : Bool) → P (calls n r.reader w last)
    → ((h : Halt) → P (stopped h 0 r.reader)) → P (team_calls n r w last)
unfolding team_calls
by_teams P n r w last f g = by_cond P (good_teams r.teams) (λ _. f) (λ _. none n)
  where
    none : (k : ℕ) → P (refused_calls k BadState r.reader)
    none zero = g _
    none (suc k) = g _

-- events leave sound teams sound
pub over_sound : (t : List ℤ) (xs : List Seen) → SoundTeams t → SoundTeams (teams_over t xs)
unfolding teams_over
over_sound t [] s = s
over_sound t (x ∷ xs) s = over_sound (teams_after x.event t) xs (teams_stay_sound x.event t s)
