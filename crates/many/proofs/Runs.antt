-- Calls one behind the other: what is done and what is left. Assumes nothing.
use Rattle.std.specs.Prelude.{Option}
use Prim.Native.Nat.{ℕ, suc, ◌+◌, ◌*◌}
use mathlib.Core.Path.{◌≡◌, refl, sym, ap, ◌∙◌}
use mathlib.Core.Bool.{Bool}
use mathlib.Core.List.{List}
use native.Mathlib.Omega.{arith}
use native.Mathlib.Numerals.{add-one}
use lib.ListN.{length, drop}
use lib.IntN.{ℤ, pos}
use Rattle.num.specs.Wrap.{wrap32}
use Rattle.item.specs.Said.{Said}
use Rattle.state.specs.declared.Memory.{Memory}
use Rattle.state.specs.Reading.{Event, Step, good_call, read_call}
use Rattle.state.specs.Views.{event_is}
use Rattle.state.specs.Slim.{slim_step}
use Rattle.state.specs.steps.Inside.{done}
use Rattle.state.specs.Laws.{Sound}
use Rattle.state.specs.declared.Scalars.{Scalars}
use Rattle.state.specs.declared.Reader.{Reader}
use Rattle.state.specs.declared.Event as code
use Rattle.state.specs.declared.Answer.TheVariants as answers
use Rattle.state.specs.declared.Outcome.{Outcome}
use Rattle.calls.specs.Calls.{Seen, is_pending}
use Rattle.calls.specs.Along.{Halt, Run, stopped, before, calls}
use Rattle.teams.specs.Teams.{team_reader, teams_after, former_team}
use Rattle.teams.proofs.Joins.{slim_teams, slim_former}
use Rattle.team_calls.specs.Lists.{team_seen, teams_over, with_formers}
use Rattle.rows.specs.Rows.{flag, event_row, row_of, event_tens, tens_of, put, rows_from, tens_from}
use Rattle.many.specs.Many.{halt_of, ManyIs}
use Rattle.rows.specs.steps.Stores.{EventPut}
use Rattle.many.specs.steps.Stores.{Room}
use Rattle.many.specs.declared.Stop.{Stop}
use Rattle.rows.proofs.Frame.{said_tens, Alike}
use Rattle.calls.proofs.Slims.{Gave}
use Rattle.rows.proofs.Puts.{placed}
use Rattle.many.proofs.Slims.{slim_row, slim_tens}
use Rattle.many.proofs.OneCall.{reader_of, call_alike, goes_to}
use Rattle.many.proofs.OneCall as one

-- ---- a run of which count events with used bytes are done, and rest is left; t₀ and t₁: the teams before the run and now

pub record Behind (run rest : Run) (count used : ℕ) (t₀ rows₀ tens₀ t₁ rows₁ tens₁ : List ℤ) : Type 0 where
  pub halt : run.halt ≡ rest.halt
  pub events : length run.seen ≡ count + length rest.seen
  pub bytes : run.used ≡ used + rest.used
  pub reader : run.reader ≡ rest.reader
  pub teams : teams_over t₀ run.seen ≡ teams_over t₁ rest.seen
  pub rows : rows_from 0 (with_formers t₀ run.seen) rows₀ ≡ rows_from count (with_formers t₁ rest.seen) rows₁
  pub tens : tens_from 0 (with_formers t₀ run.seen) tens₀ ≡ tens_from count (with_formers t₁ rest.seen) tens₁

pub begun : (run : Run) (t rows tens : List ℤ) → Behind run run 0 0 t rows tens t rows tens
begun run t rows tens = record { halt = refl; events = omega arith; bytes = omega arith; reader = refl; teams = refl; rows = refl; tens = refl }

module _ {run : Run} {count used : ℕ} {t₀ rows₀ tens₀ t₁ rows₁ tens₁ : List ℤ} where
  pub one_more : (x : Seen) (rest : Run) → Behind run (before x rest) count used t₀ rows₀ tens₀ t₁ rows₁ tens₁
      → let y = team_seen (former_team x.event t₁) x in
      Behind run rest (count + 1) (used + x.used) t₀ rows₀ tens₀ (teams_after x.event t₁) (put rows₁ (8 * count) (row_of y)) (put tens₁ (20 * count) (tens_of y))
  unfolding rows_from tens_from teams_over with_formers
  one_more x rest b =
      record {
        halt = b.halt;
        events = omega (arith, b.events);
        bytes = omega (arith, b.bytes);
        reader = b.reader;
        teams = b.teams;
        rows = rw add-one b.rows;
        tens = rw add-one b.tens;
      }

  pub ended : (stop : Stop) (h : Halt) (n u : ℕ) (r : Reader) → halt_of stop ≡ h → u ≡ used + n
      → Behind run (stopped h n r) count used t₀ rows₀ tens₀ t₁ rows₁ tens₁
      → ManyIs run t₀ rows₀ tens₀ (record { stop = stop; count = count; used = u; reader = team_reader r t₁ }) rows₁ tens₁
  unfolding rows_from tens_from teams_over with_formers
  ended stop h n u r e f b =
      record {
        halt = e ∙ sym b.halt;
        count = omega (arith, b.events);
        used = f ∙ sym b.bytes;
        left = λ i. team_reader (sym b.reader i) (sym b.teams i);
        rows = sym b.rows;
        tens = sym b.tens;
      }

-- ---- a call that gives an event

module _ (s : Scalars) (m : Memory) (w : List ℕ) (last : Bool) (sound : Sound (reader_of s m)) (o : Outcome) (m' : Memory)
    (e : done o m' ≡ slim_step (good_call s m w last)) (v : code.Event) (n : ℕ) (a : o.answer ≡ answers.Event v n)
  where
    abbrev alike : Alike (good_call s m w last) (read_call (reader_of s m) w last)
    alike = call_alike s m w last sound

    abbrev given : Gave (read_call (reader_of s m) w last).said (event_is v) n
    given = one.given s m w last sound o m' e v n a

    abbrev seen : Seen
    seen = one.seen s m w last sound o m' e v n a

    row_is : (team : Option ℤ) → row_of (team_seen team seen) ≡ event_row (event_is v) team (wrap32 (pos n)) (flag (is_pending s.pending))
    unfolding row_of
    row_is team =
        sym (slim_row given.event team _ _)
        ∙ ap (λ (d : Event). event_row d team (wrap32 (pos n)) (flag (is_pending s.pending))) given.own

    tens_are : (team : Option ℤ) → tens_of (team_seen team seen) ≡ event_tens (event_is v) m'.input m'.former
    unfolding tens_of
    tens_are team =
        let t = read_call (reader_of s m) w last in
        ap (λ (x : Said Event). said_tens x t.memory) (sym given.said)
        ∙ sym alike.tens
        ∙ (λ i. said_tens ((alike.said ∙ given.said) i) (sym (ap (λ (u : Step). u.memory) e) i))
        ∙ sym (slim_tens given.event m'.input m'.former)
        ∙ ap (λ (d : Event). event_tens d m'.input m'.former) given.own

    teams_are : (t : List ℤ) → teams_after seen.event t ≡ teams_after (event_is v) t
    teams_are t = sym (slim_teams given.event t) ∙ ap (λ (d : Event). teams_after d t) given.own

    former_is : (t : List ℤ) → former_team seen.event t ≡ former_team (event_is v) t
    former_is t = sym (slim_former given.event t) ∙ ap (λ (d : Event). former_team d t) given.own

    pub goes_on : {run : Run} {count used : ℕ} {t₀ rows₀ tens₀ t₁ rows₁ tens₁ : List ℤ} (k : ℕ) (t₂ rows₂ tens₂ : List ℤ)
        → Room (count + 1) rows₁ tens₁ → Behind run (calls (suc k) (reader_of s m) w last) count used t₀ rows₀ tens₀ t₁ rows₁ tens₁
        → EventPut (event_is v) n (flag (is_pending s.pending)) count m'.input m'.former t₁ rows₁ tens₁ t₂ rows₂ tens₂
        → Behind run (calls k (reader_of o.scalars m') (drop n w) last) (count + 1) (used + n) t₀ rows₀ tens₀ t₂ rows₂ tens₂
    goes_on {count = count} {t₁ = t₁} {rows₁ = rows₁} {tens₁ = tens₁} k t₂ rows₂ tens₂ room b p =
        let f = placed (omega (arith, room.rows, room.tens)) p in
        let team = former_team (event_is v) t₁ in
        rw (f.teams, f.rows, f.tens, ← row_is team, ← tens_are team, ← former_is t₁, ← teams_are t₁)
        (one_more seen _ (rw (goes_to s m w last sound o m' e v n a k) at b))
