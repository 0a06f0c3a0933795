-- A run and a reel beside it: what is done and what is left. Assumes nothing.
use Rattle.std.specs.Prelude.{Option}
use Prim.Native.Nat.{ℕ, suc, ◌+◌}
use mathlib.Core.Path.{◌≡◌, refl, sym, ap, ◌∙◌}
use mathlib.Core.Bool.{Bool}
use mathlib.Core.List.{List}
use native.Mathlib.Omega.{arith}
use lib.ListN.{length, drop}
use lib.IntN.{ℤ}
use Rattle.item.specs.Said.{Said}
use Rattle.state.specs.declared.Memory.{Memory}
use Rattle.state.specs.Reading.{Event, Step, good_call, read_call}
use Rattle.state.specs.Views.{event_is}
use Rattle.state.specs.Slim.{slim_step}
use Rattle.state.specs.steps.Inside.{done}
use Rattle.state.specs.Laws.{Sound}
use Rattle.state.specs.declared.Scalars.{Scalars}
use Rattle.state.specs.declared.Reader.{Reader}
use Rattle.state.specs.declared.Event as code
use Rattle.state.specs.declared.Answer.TheVariants as answers
use Rattle.state.specs.declared.Outcome.{Outcome}
use Rattle.teams.specs.Teams.{teams_after, former_team, team_reader}
use Rattle.teams.proofs.Joins.{slim_teams, slim_former}
use Rattle.calls.specs.Calls.{Seen}
use Rattle.calls.specs.Along.{Halt, Run, stopped, before, calls}
use Rattle.calls.proofs.Slims.{Gave}
use Rattle.team_calls.specs.Lists.{teams_over, with_formers}
use Rattle.reel.specs.Reel.{keep}
use Rattle.reel.specs.declared.Reel.{Reel}
use Rattle.many.specs.Many.{halt_of}
use Rattle.many.specs.declared.Stop.{Stop}
use Rattle.many.proofs.OneCall.{reader_of, call_alike, goes_to}
use Rattle.many.proofs.OneCall as one
use Rattle.reeling.specs.Reeling.{keep_all, KeptIs}
use Rattle.reeling.proofs.Keeps.{slim_keep, keep_said, call_keeps}

-- count events with used bytes are done, which made the teams t and the reel l; rest is left
pub record Behind (run rest : Run) (t₀ : List ℤ) (l₀ : Reel) (t : List ℤ) (l : Reel) (count used : ℕ) : Type 0 where
  pub halt : run.halt ≡ rest.halt
  pub events : length run.seen ≡ count + length rest.seen
  pub bytes : run.used ≡ used + rest.used
  pub reader : run.reader ≡ rest.reader
  pub teams : teams_over t₀ run.seen ≡ teams_over t rest.seen
  pub reel : keep_all l₀ (with_formers t₀ run.seen) ≡ keep_all l (with_formers t rest.seen)

pub begun : (run : Run) (t : List ℤ) (l : Reel) → Behind run run t l t l 0 0
begun run t l = record { halt = refl; events = omega arith; bytes = omega arith; reader = refl; teams = refl; reel = refl }

module _ {run : Run} {t₀ : List ℤ} {l₀ : Reel} {t : List ℤ} {l : Reel} {count used : ℕ} where
  one_more : (x : Seen) (rest : Run) → Behind run (before x rest) t₀ l₀ t l count used
      → Behind run rest t₀ l₀ (teams_after x.event t) (keep l x.event x.ten x.former (former_team x.event t)) (count + 1) (used + x.used)
  unfolding keep_all teams_over with_formers
  one_more x rest b =
      record {
        halt = b.halt;
        events = omega (arith, b.events);
        bytes = omega (arith, b.bytes);
        reader = b.reader;
        teams = b.teams;
        reel = b.reel;
      }

  pub ended : (stop : Stop) (h : Halt) (n u : ℕ) (r : Reader) → halt_of stop ≡ h → u ≡ used + n
      → Behind run (stopped h n r) t₀ l₀ t l count used
      → KeptIs run t₀ l₀ (record { stop = stop; count = count; used = u; reader = team_reader r t; counts = l.counts }) l
  unfolding keep_all teams_over with_formers
  ended stop h n u r e f b =
      record {
        halt = e ∙ sym b.halt;
        count = omega (arith, b.events);
        used = f ∙ sym b.bytes;
        left = λ i. team_reader (sym b.reader i) (sym b.teams i);
        reel = sym b.reel;
      }

-- ---- a call that gives an event

module _ (s : Scalars) (m : Memory) (w : List ℕ) (last : Bool) (sound : Sound (reader_of s m)) (o : Outcome) (m' : Memory)
    (e : done o m' ≡ slim_step (good_call s m w last)) (v : code.Event) (n : ℕ) (a : o.answer ≡ answers.Event v n)
  where
    abbrev given : Gave (read_call (reader_of s m) w last).said (event_is v) n
    given = one.given s m w last sound o m' e v n a

    abbrev seen : Seen
    seen = one.seen s m w last sound o m' e v n a

    -- the event as the code has it, with the lent numbers
    keeps_it : (l : Reel) (team : Option ℤ) → keep l (event_is v) m'.input m'.former team ≡ keep l seen.event seen.ten seen.former team
    keeps_it l team =
        let t = read_call (reader_of s m) w last in
        ap (λ (d : Event). keep l d m'.input m'.former team) (sym given.own)
        ∙ slim_keep l given.event m'.input m'.former team
        ∙ (λ i. keep_said l team (sym ((call_alike s m w last sound).said ∙ given.said) i) (ap (λ (u : Step). u.memory) e i))
        ∙ call_keeps l team s m w last sound
        ∙ ap (λ (x : Said Event). keep_said l team x t.memory) given.said

    former_is : (t : List ℤ) → former_team (event_is v) t ≡ former_team seen.event t
    former_is t = ap (λ (d : Event). former_team d t) (sym given.own) ∙ slim_former given.event t

    teams_are : (t : List ℤ) → teams_after (event_is v) t ≡ teams_after seen.event t
    teams_are t = ap (λ (d : Event). teams_after d t) (sym given.own) ∙ slim_teams given.event t

    pub goes_on : {run : Run} {t₀ : List ℤ} {l₀ : Reel} {t : List ℤ} {l : Reel} {count used : ℕ} (k : ℕ) (team : Option ℤ) (t₁ : List ℤ) (l₁ : Reel)
        → team ≡ former_team (event_is v) t → t₁ ≡ teams_after (event_is v) t → l₁ ≡ keep l (event_is v) m'.input m'.former team
        → Behind run (calls (suc k) (reader_of s m) w last) t₀ l₀ t l count used
        → Behind run (calls k (reader_of o.scalars m') (drop n w) last) t₀ l₀ t₁ l₁ (count + 1) (used + n)
    goes_on {t = t} {l = l} k team t₁ l₁ f g h b =
        rw (h, keeps_it l team, f, g, former_is t, teams_are t) (one_more seen _ (rw (goes_to s m w last sound o m' e v n a k) at b))
