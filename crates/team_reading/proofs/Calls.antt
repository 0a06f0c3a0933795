-- A call with teams by the test that the code makes, of a reader by value and on lent memory. Assumes nothing.
use Rattle.std.specs.Prelude.{Option, None}
use Prim.Native.Nat.{ℕ}
use mathlib.Core.Path.{◌≡◌, refl, ap, subst, ◌∙◌}
use mathlib.Core.Bool.{Bool, true, false}
use mathlib.Core.List.{List}
use lib.IntN.{ℤ}
use Rattle.refusal.specs.declared.Refusal.TheVariants.{BadState}
use Rattle.item.specs.Said.{Said, refusing}
use Rattle.state.specs.declared.Memory.{Memory}
use Rattle.state.specs.Reading.{Event, Step, step_of, call_on}
use Rattle.state.specs.Slim.{said_is, slim_step}
use Rattle.state.specs.steps.Parts.{memory_of}
use Rattle.state.specs.steps.Inside.{done}
use Rattle.state.specs.declared.Answer.TheVariants as answers
use Rattle.state.specs.declared.Scalars.{Scalars}
use Rattle.state.specs.declared.Outcome.{Outcome}
use Rattle.state.proofs.Numbers.{picks_first, picks_second}
use Rattle.teams.specs.Teams.{good_teams}
use Rattle.teams.specs.declared.TeamReader.{TeamReader}
use Rattle.team_calls.specs.Reading.{TeamStep, teams_said, former_said, team_call}
use Rattle.team_calls.proofs.Slims.{told_said}
use Rattle.reader.specs.Answers.{Tells, ReadIs}
use Rattle.reader.specs.declared.ReadAnswer.{ReadAnswer}
use Rattle.team_reading.specs.Answers.{TellsTeams, TeamReadIs, team_call_on, LentTells}
use Rattle.team_reading.specs.declared.TeamRead.{TeamRead}
use Rattle.team_reading.specs.declared.TeamOutcome.{TeamOutcome}
use Rattle.team_reading.proofs.Beside.{beside_said}

abbrev pub team_read : ReadAnswer → List ℤ → Option ℤ → TeamRead
team_read x t m = record { read = x; teams = t; former = m }

abbrev pub team_outcome : Outcome → Option ℤ → TeamOutcome
team_outcome o m = record { outcome = o; former = m }

-- ---- by value

module _ (r : TeamReader) (w : List ℕ) (last : Bool) (x : ReadAnswer) where
  pub read_bad : good_teams r.teams ≡ false → Tells (step_of (refusing BadState) r.reader.scalars (memory_of r.reader.entries)) x
      → TeamReadIs r w last (team_read x r.teams None)
  unfolding team_call
  read_bad g h =
      subst (λ (t : TeamStep). TellsTeams t (team_read x r.teams None)) (picks_second (good_teams r.teams) _ _ g)
      (record { read = h; teams = refl; former = refl })

  pub read_good : (t : List ℤ) (m : Option ℤ) → good_teams r.teams ≡ true → ReadIs r.reader w last x
      → (m ≡ former_said (said_is x.answer) r.teams) × (t ≡ teams_said (said_is x.answer) r.teams)
      → TeamReadIs r w last (team_read x t m)
  unfolding team_call
  read_good t m g h e =
      let b = beside_said x.answer x.args r.teams in
      subst (λ (u : TeamStep). TellsTeams u (team_read x t m)) (picks_first (good_teams r.teams) _ _ g)
      (record {
        read = h;
        teams = e.1 ∙ b.0 ∙ ap (λ (a : Said Event). teams_said a r.teams) h.said;
        former = e.0 ∙ b.1 ∙ ap (λ (a : Said Event). former_said a r.teams) h.said;
      })

-- ---- lent

module _ (s : Scalars) (m : Memory) (t : List ℤ) (w : List ℕ) (last : Bool) where
  abbrev refused_outcome : Outcome
  refused_outcome = record { answer = answers.Refused BadState; scalars = s }

  pub lent_bad : good_teams t ≡ false → LentTells (team_call_on s m t w last) (team_outcome refused_outcome None) m t
  unfolding team_call_on
  lent_bad g =
      subst (λ (u : TeamStep). LentTells u (team_outcome refused_outcome None) m t) (picks_second (good_teams t) _ _ g)
      (record { outcome = refl; left = refl; former = refl })

  pub lent_good : (o : Outcome) (m' : Memory) (t' : List ℤ) (f : Option ℤ) → good_teams t ≡ true → done o m' ≡ slim_step (call_on s m w last)
      → (f ≡ former_said (said_is o.answer) t) × (t' ≡ teams_said (said_is o.answer) t) → LentTells (team_call_on s m t w last) (team_outcome o f) m' t'
  unfolding team_call_on
  lent_good o m' t' f g d e =
      let b = told_said (call_on s m w last).said o.answer t (ap (λ (u : Step). u.said) d) in
      subst (λ (u : TeamStep). LentTells u (team_outcome o f) m' t') (picks_first (good_teams t) _ _ g)
      (record { outcome = d; left = e.1 ∙ b.0; former = e.0 ∙ b.1 })
