-- The loop over the calls beside a list: its invariant, one turn, each way to stop. Assumes nothing.
use Prim.Native.Nat.{ℕ, suc, ◌+◌, ◌*◌, ◌-◌, ◌≤◌, ◌<◌}
use mathlib.Core.Path.{◌≡◌, refl, sym, ap, subst, ◌∙◌}
use mathlib.Core.Bool.{Bool, true, false}
use mathlib.Core.List.{List}
use native.Mathlib.Omega.{arith}
use lib.ListN.{length, take, drop, length-drop}
use lib.Seq.{drop-drop}
use lib.IntN.{ℤ}
use Rattle.refusal.specs.Numbers.{number_of, values_of}
use Rattle.refusal.specs.declared.Refusal.{Refusal}
use Rattle.refusal.specs.declared.Refusal.TheVariants.{BadState}
use Rattle.state.specs.declared.Memory.{Memory}
use Rattle.state.specs.Reading.{good_call, read_call}
use Rattle.state.specs.Views.{event_is}
use Rattle.state.specs.Slim.{said_is, slim_step}
use Rattle.state.specs.steps.Inside.{done}
use Rattle.state.specs.Laws.{used_in, Ticked, Sound}
use Rattle.state.specs.declared.Scalars.{Scalars}
use Rattle.state.specs.declared.Reader.{Reader}
use Rattle.state.specs.declared.Event as code
use Rattle.state.specs.declared.Answer.TheVariants as answers
use Rattle.state.specs.declared.Outcome.{Outcome}
use Rattle.calls.specs.Calls.{Seen}
use Rattle.calls.specs.Along.{Halt, wants_more, finishes, is_refused, Run, before, calls, enough}
use Rattle.calls.proofs.Slims.{Gave}
use Rattle.calls.proofs.Ranks.{rank, rank_le, call_falls}
use Rattle.many.proofs.OneCall.{rest_is, reader_of, left_is, stays_sound, uses, ends_more, ends_finish, ends_refused, given, seen, goes_to}
use Rattle.results.specs.Results.{Finish, finish_of, tick_after, keep, fits}
use Rattle.results.specs.declared.Results.{Results}
use Rattle.listing.specs.Listing.{ListRun, whole_run, list_run}
use Rattle.listing.specs.steps.Lists.{KeepsEvent, unchanged}
use Rattle.listing.specs.declared.Kept.{Kept}
use Rattle.results.proofs.Ticks.{Open, open_now, stays_open, finish_behind, call_ticked}
use Rattle.listing.proofs.Slims.{slim_finish}
use Rattle.listing.proofs.Beside.{Behind, begun, one_more, ended, past}

-- what falls with each event
abbrev pub measure : List ℕ → ℕ → Scalars → ℕ
measure w used s = 5 * (length w - used) + rank s

-- s, m and l are what the calls so far left of reader and list, tick the one that the events opened; so many calls are left as are enough
pub record Going (run : Run) (w : List ℕ) (last : Bool) (l₀ : Results) (r₀ : Reader) (s : Scalars) (m : Memory) (l : Results) (used : ℕ) (gave : Bool) : Type 0 where
  pub within : used ≤ length w
  pub sound : Sound (reader_of s m)
  pub fitting : fits l ≡ true
  pub left : ℕ
  pub many : measure w used s < left
  pub tick : ℤ
  pub opened : Open tick s
  pub behind : Behind run (calls left (reader_of s m) (drop used w) last) l₀ r₀ l tick used gave

module _ (w : List ℕ) (last : Bool) (l : Results) (s : Scalars) (m : Memory) where
  pub starts : Sound (reader_of s m) → fits l ≡ true
      → Going (whole_run (reader_of s m) w last) w last l (reader_of s m) s m l 0 false
  starts sound f =
      record {
        within = omega arith;
        sound = sound;
        fitting = f;
        left = enough w;
        many = omega (arith, rank_le s);
        tick = s.tick;
        opened = open_now s;
        behind = begun _ l (reader_of s m);
      }

module _ {run : Run} {w : List ℕ} {last : Bool} {l₀ : Results} {r₀ : Reader} {s : Scalars} {m : Memory} {l : Results} {used : ℕ}
    {gave : Bool} (g : Going run w last l₀ r₀ s m l used gave) (o : Outcome) (m' : Memory)
    (e : done o m' ≡ slim_step (good_call s m (take (length w - used) (drop used w)) last))
  where
    fewer : ℕ
    fewer = g.left - 1

    call : done o m' ≡ slim_step (good_call s m (drop used w) last)
    call = rw (rest_is w used) at e

    abbrev k : ℤ
    k = g.tick

    next : Behind run (calls (suc fewer) (reader_of s m) (drop used w) last) l₀ r₀ l k used gave
    unfolding fewer
    next =
        let q : g.left ≡ suc (g.left - 1) = omega (arith, g.many) in
        rw q at g.behind

    pub in_window : used + used_in (said_is o.answer) ≤ length w
    in_window = omega (arith, uses s m (drop used w) last g.sound o m' call, length-drop used w, g.within)

    module _ (v : code.Event) (n : ℕ) (a : o.answer ≡ answers.Event v n) where
      x : Seen
      x = seen s m (drop used w) last g.sound o m' call v n a

      after : Behind run (before x (calls fewer (reader_of o.scalars m') (drop n (drop used w)) last)) l₀ r₀ l k used gave
      unfolding x
      after = rw (goes_to s m (drop used w) last g.sound o m' call v n a fewer) at next

      abbrev gave_it : Gave (read_call (reader_of s m) (drop used w) last).said (event_is v) n
      gave_it = given s m (drop used w) last g.sound o m' call v n a

      falls : rank o.scalars + 1 ≤ rank s + 5 * n
      falls =
          subst (λ (q : Reader). rank q.scalars + 1 ≤ rank s + 5 * n) (sym (left_is s m (drop used w) last g.sound o m' call))
          (rw gave_it.said at (call_falls (reader_of s m) (drop used w) last))

      pub less : measure w (used + n) o.scalars < measure w used s
      less = omega (arith, falls, rw a at in_window)

      ticked : Ticked x.event s o.scalars
      unfolding x
      ticked =
          subst (λ (q : Reader). Ticked gave_it.event s q.scalars) (sym (left_is s m (drop used w) last g.sound o m' call))
          (call_ticked (reader_of s m) (drop used w) last gave_it.event n gave_it.said)

      finish_is_law : finish_of k x.event ≡ finish_of o.scalars.tick (event_is v)
      unfolding x
      finish_is_law =
          finish_behind k s o.scalars x.event ticked g.opened
          ∙ sym (slim_finish o.scalars.tick gave_it.event)
          ∙ ap (finish_of o.scalars.tick) gave_it.own

      module _ (c : Kept) (l₁ : Results) (h : KeepsEvent l o.scalars.tick (event_is v) c l₁) where
        pub full : c.fits ≡ false → unchanged BadState l₀ r₀ ≡ list_run l₀ r₀ run
        full f = past x _ (ap (λ (fs : List Finish). fits (keep l fs)) finish_is_law ∙ sym h.fits ∙ f) after

        pub turn : c.fits ≡ true → Going run w last l₀ r₀ o.scalars m' l₁ (used + n) true
        unfolding fewer x
        turn f =
            record {
              within = rw a at in_window;
              sound = stays_sound s m (drop used w) last g.sound o m' call;
              fitting = ap fits (h.list f) ∙ sym h.fits ∙ f;
              left = fewer;
              many = omega (arith, g.many, less);
              tick = tick_after k x.event;
              opened = stays_open k s o.scalars x.event ticked g.opened;
              behind = rw (h.list f, ← finish_is_law) (rw drop-drop at (one_more x _ after));
            }

    -- the calls end
    abbrev leaves : Halt → ℕ → ListRun
    leaves halt n = record { halt = halt; gave = gave; used = n; list = l; reader = reader_of o.scalars m' }

    pub more : o.answer ≡ answers.More → leaves wants_more used ≡ list_run l₀ r₀ run
    more a = ended wants_more 0 used _ (omega arith) g.fitting (rw (ends_more s m (drop used w) last g.sound o m' call fewer a) at next)

    pub finish : (n : ℕ) → o.answer ≡ answers.Finish n → leaves finishes (used + n) ≡ list_run l₀ r₀ run
    finish n a = ended finishes n (used + n) _ refl g.fitting (rw (ends_finish s m (drop used w) last g.sound o m' call fewer n a) at next)

    pub refused : (r : Refusal) → o.answer ≡ answers.Refused r → leaves (is_refused (number_of r) (values_of r)) used ≡ list_run l₀ r₀ run
    refused r a = ended _ 0 used _ (omega arith) g.fitting (rw (ends_refused s m (drop used w) last g.sound o m' call fewer r a) at next)
