-- The loop over the calls: its invariant, one turn, each way to stop. Assumes nothing.
use Rattle.std.specs.Prelude.{Option}
use Prim.Native.Nat.{ℕ, suc, ◌+◌, ◌-◌, ◌≤◌, ◌<◌}
use mathlib.Core.Path.{◌≡◌, refl}
use mathlib.Core.Bool.{Bool, true}
use mathlib.Core.List.{List}
use native.Mathlib.Omega.{arith}
use lib.ListN.{length, take, drop, length-drop}
use lib.Seq.{drop-drop}
use lib.IntN.{ℤ}
use Rattle.refusal.specs.declared.Refusal.{Refusal}
use Rattle.state.specs.declared.Memory.{Memory}
use Rattle.state.specs.Reading.{good_call}
use Rattle.state.specs.Views.{event_is}
use Rattle.state.specs.Slim.{said_is, slim_step}
use Rattle.state.specs.steps.Inside.{done}
use Rattle.state.specs.Laws.{used_in, Sound}
use Rattle.state.specs.declared.Scalars.{Scalars}
use Rattle.state.specs.declared.Event as code
use Rattle.state.specs.declared.Answer.TheVariants as answers
use Rattle.state.specs.declared.Outcome.{Outcome}
use Rattle.teams.specs.Teams.{teams_after, former_team, team_reader}
use Rattle.calls.specs.Along.{Run, along, calls}
use Rattle.reel.specs.Reel.{good_reel, keeping}
use Rattle.reel.specs.declared.KeptReel.{KeptReel}
use Rattle.reel.specs.declared.Reel.{Reel}
use Rattle.many.specs.declared.Stop.{Stop}
use Rattle.many.specs.declared.Stop.TheVariants as stops
use Rattle.many.proofs.OneCall.{rest_is, reader_of, stays_sound, uses, ends_more, ends_finish, ends_refused}
use Rattle.reeling.specs.Reeling.{KeptIs}
use Rattle.reeling.specs.declared.ReelRead.{ReelRead}
use Rattle.reeling.proofs.Keeps.{kept, stays_good}
use Rattle.reeling.proofs.Beside.{Behind, begun, ended, goes_on}

pub record Going (run : Run) (most : ℕ) (w : List ℕ) (last : Bool) (t₀ : List ℤ) (l₀ : Reel) (s : Scalars) (m : Memory) (t : List ℤ) (l : Reel)
    (count used : ℕ) : Type 0
  where
    pub fewer : count ≤ most
    pub within : used ≤ length w
    pub sound : Sound (reader_of s m)
    pub good : good_reel l ≡ true
    pub behind : Behind run (calls (most - count) (reader_of s m) (drop used w) last) t₀ l₀ t l count used

pub starts : (most : ℕ) (w : List ℕ) (last : Bool) (t : List ℤ) (l : Reel) (s : Scalars) (m : Memory) → Sound (reader_of s m) → good_reel l ≡ true
    → Going (calls most (reader_of s m) w last) most w last t l s m t l 0 0
starts most w last t l s m sound good =
    let e : most - 0 ≡ most = omega arith in
    record { fewer = omega arith; within = omega arith; sound = sound; good = good; behind = rw e (begun _ t l) }

abbrev answered : Stop → ℕ → ℕ → Scalars → Memory → List ℤ → Reel → ReelRead
answered stop count used s m t l = record { stop = stop; count = count; used = used; reader = team_reader (reader_of s m) t; counts = l.counts }

module _ {run : Run} {most : ℕ} {w : List ℕ} {last : Bool} {t₀ : List ℤ} {l₀ : Reel} {s : Scalars} {m : Memory} {t : List ℤ} {l : Reel}
    {count used : ℕ} (g : Going run most w last t₀ l₀ s m t l count used)
  where
    pub full : most ≤ count → KeptIs run t₀ l₀ (answered stops.Full count used s m t l) l
    unfolding along
    full h =
        let e : most - count ≡ 0 = omega arith in
        ended stops.Full _ 0 used _ refl (omega arith) (rw e at g.behind)

    module _ (h : count < most) (o : Outcome) (m' : Memory)
        (e : done o m' ≡ slim_step (good_call s m (take (length w - used) (drop used w)) last))
      where
        -- calls behind this one
        left : ℕ
        left = most - (count + 1)

        call : done o m' ≡ slim_step (good_call s m (drop used w) last)
        call = rw (rest_is w used) at e

        next : Behind run (calls (suc left) (reader_of s m) (drop used w) last) t₀ l₀ t l count used
        unfolding left
        next =
            let q : most - count ≡ suc (most - (count + 1)) = omega arith in
            rw q at g.behind

        pub fits : used + used_in (said_is o.answer) ≤ length w
        fits = omega (arith, uses s m (drop used w) last g.sound o m' call, length-drop used w, g.within)

        pub turn : (v : code.Event) (n : ℕ) (team : Option ℤ) (t₁ : List ℤ) (k : KeptReel) → o.answer ≡ answers.Event v n
            → (team ≡ former_team (event_is v) t) × (t₁ ≡ teams_after (event_is v) t)
            → k ≡ keeping l (event_is v) m'.input m'.former team
            → Going run most w last t₀ l₀ o.scalars m' t₁ k.reel (count + 1) (used + n)
        unfolding left
        turn v n team t₁ k a p q =
            let r = kept l (event_is v) m'.input m'.former team k g.good q in
            record {
              fewer = omega arith;
              within = rw a at fits;
              sound = stays_sound s m (drop used w) last g.sound o m' call;
              good = stays_good l (event_is v) m'.input m'.former team k.reel r;
              behind = rw drop-drop at (goes_on s m (drop used w) last g.sound o m' call v n a left team t₁ k.reel p.0 p.1 r next);
            }

        pub more : o.answer ≡ answers.More → KeptIs run t₀ l₀ (answered stops.More count used o.scalars m' t l) l
        more a =
            ended stops.More _ 0 used _ refl (omega arith) (rw (ends_more s m (drop used w) last g.sound o m' call left a) at next)

        pub finish : (n : ℕ) → o.answer ≡ answers.Finish n → KeptIs run t₀ l₀ (answered stops.Finish count (used + n) o.scalars m' t l) l
        finish n a =
            ended stops.Finish _ n (used + n) _ refl refl (rw (ends_finish s m (drop used w) last g.sound o m' call left n a) at next)

        pub refused : (r : Refusal) → o.answer ≡ answers.Refused r
            → KeptIs run t₀ l₀ (answered (stops.Refused r) count used o.scalars m' t l) l
        refused r a =
            ended (stops.Refused r) _ 0 used _ refl (omega arith)
            (rw (ends_refused s m (drop used w) last g.sound o m' call left r a) at next)
