-- The loop over the calls: its invariant, one turn, each way to stop. Assumes nothing.
use Prim.Native.Nat.{ℕ, suc, ◌+◌, ◌-◌, ◌≤◌, ◌<◌}
use mathlib.Core.Path.{◌≡◌, refl, ◌∙◌}
use mathlib.Core.Bool.{Bool}
use mathlib.Core.List.{List}
use native.Mathlib.Omega.{arith}
use lib.ListN.{length, take, drop, length-drop}
use lib.Seq.{drop-drop}
use lib.IntN.{ℤ}
use Rattle.refusal.specs.declared.Refusal.{Refusal}
use Rattle.state.specs.declared.Memory.{Memory}
use Rattle.state.specs.Reading.{good_call}
use Rattle.state.specs.Views.{event_is}
use Rattle.state.specs.Slim.{said_is}
use Rattle.state.specs.Slim.{slim_step}
use Rattle.state.specs.steps.Inside.{done}
use Rattle.state.specs.Laws.{used_in, Sound}
use Rattle.state.specs.declared.Scalars.{Scalars}
use Rattle.state.specs.declared.Event as code
use Rattle.state.specs.declared.Answer.TheVariants as answers
use Rattle.state.specs.declared.Outcome.{Outcome}
use Rattle.teams.specs.Teams.{team_reader}
use Rattle.calls.specs.Calls.{is_pending}
use Rattle.calls.specs.Along.{Run, along, calls}
use Rattle.rows.specs.Rows.{flag}
use Rattle.many.specs.Many.{ManyIs}
use Rattle.rows.specs.steps.Stores.{EventPut}
use Rattle.many.specs.steps.Stores.{Room}
use Rattle.many.specs.declared.Stop.TheVariants as stops
use Rattle.many.proofs.OneCall.{rest_is, reader_of, stays_sound, uses, ends_more, ends_finish, ends_refused}
use Rattle.many.proofs.Runs.{Behind, begun, ended, goes_on}

pub record Going (run : Run) (room : ℕ) (w : List ℕ) (last : Bool) (t₀ rows₀ tens₀ : List ℤ) (s : Scalars) (m : Memory) (count used : ℕ)
    (t₁ rows₁ tens₁ : List ℤ) : Type 0
  where
    pub most : count ≤ room
    pub within : used ≤ length w
    pub rows : length rows₁ ≡ length rows₀
    pub tens : length tens₁ ≡ length tens₀
    pub sound : Sound (reader_of s m)
    pub behind : Behind run (calls (room - count) (reader_of s m) (drop used w) last) count used t₀ rows₀ tens₀ t₁ rows₁ tens₁

module _ (room : ℕ) (w : List ℕ) (last : Bool) (t rows tens : List ℤ) (s : Scalars) (m : Memory) where
  pub starts : Sound (reader_of s m) → Going (calls room (reader_of s m) w last) room w last t rows tens s m 0 0 t rows tens
  starts sound =
      let e : room - 0 ≡ room = omega arith in
      record {
        most = omega arith;
        within = omega arith;
        rows = refl;
        tens = refl;
        sound = sound;
        behind = rw e (begun _ t rows tens);
      }

module _ {run : Run} {room : ℕ} {w : List ℕ} {last : Bool} {t₀ rows₀ tens₀ : List ℤ} {s : Scalars} {m : Memory} {count used : ℕ}
    {t₁ rows₁ tens₁ : List ℤ} (g : Going run room w last t₀ rows₀ tens₀ s m count used t₁ rows₁ tens₁)
  where
    pub full : room ≤ count
        → ManyIs run t₀ rows₀ tens₀ (record { stop = stops.Full; count = count; used = used; reader = team_reader (reader_of s m) t₁ }) rows₁ tens₁
    unfolding along
    full h =
        let e : room - count ≡ 0 = omega arith in
        ended stops.Full _ 0 used _ refl (omega arith) (rw e at g.behind)

    module _ (h : count < room) (o : Outcome) (m' : Memory)
        (e : done o m' ≡ slim_step (good_call s m (take (length w - used) (drop used w)) last))
      where
        left : ℕ
        left = room - (count + 1)

        call : done o m' ≡ slim_step (good_call s m (drop used w) last)
        call = rw (rest_is w used) at e

        next : Behind run (calls (suc left) (reader_of s m) (drop used w) last) count used t₀ rows₀ tens₀ t₁ rows₁ tens₁
        unfolding left
        next =
            let q : room - count ≡ suc (room - (count + 1)) = omega arith in
            rw q at g.behind

        pub fits : used + used_in (said_is o.answer) ≤ length w
        fits = omega (arith, uses s m (drop used w) last g.sound o m' call, length-drop used w, g.within)

        pub turn : (v : code.Event) (n : ℕ) (t₂ rows₂ tens₂ : List ℤ) → o.answer ≡ answers.Event v n
            → EventPut (event_is v) n (flag (is_pending s.pending)) count m'.input m'.former t₁ rows₁ tens₁ t₂ rows₂ tens₂
            → length rows₂ ≡ length rows₁ → length tens₂ ≡ length tens₁ → Room (count + 1) rows₁ tens₁
            → Going run room w last t₀ rows₀ tens₀ o.scalars m' (count + 1) (used + n) t₂ rows₂ tens₂
        unfolding left
        turn v n t₂ rows₂ tens₂ a p x y there =
            record {
              most = omega arith;
              within = rw a at fits;
              rows = x ∙ g.rows;
              tens = y ∙ g.tens;
              sound = stays_sound s m (drop used w) last g.sound o m' call;
              behind = rw drop-drop at (goes_on s m (drop used w) last g.sound o m' call v n a left t₂ rows₂ tens₂ there next p);
            }

        pub more : o.answer ≡ answers.More
            → ManyIs run t₀ rows₀ tens₀ (record { stop = stops.More; count = count; used = used; reader = team_reader (reader_of o.scalars m') t₁ }) rows₁ tens₁
        more a =
            ended stops.More _ 0 used _ refl (omega arith) (rw (ends_more s m (drop used w) last g.sound o m' call left a) at next)

        pub finish : (n : ℕ) → o.answer ≡ answers.Finish n
            → ManyIs run t₀ rows₀ tens₀ (record { stop = stops.Finish; count = count; used = used + n; reader = team_reader (reader_of o.scalars m') t₁ }) rows₁ tens₁
        finish n a =
            ended stops.Finish _ n (used + n) _ refl refl (rw (ends_finish s m (drop used w) last g.sound o m' call left n a) at next)

        pub refused : (r : Refusal) → o.answer ≡ answers.Refused r
            → ManyIs run t₀ rows₀ tens₀ (record { stop = stops.Refused r; count = count; used = used; reader = team_reader (reader_of o.scalars m') t₁ }) rows₁ tens₁
        refused r a =
            ended (stops.Refused r) _ 0 used _ refl (omega arith)
            (rw (ends_refused s m (drop used w) last g.sound o m' call left r a) at next)
