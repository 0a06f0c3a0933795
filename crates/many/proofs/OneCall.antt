-- One call on a sound reader whose entries are lent: what it leaves and uses, and what calls that begin with it are. Assumes nothing.
use Prim.Native.Nat.{ℕ, suc, ◌-◌, ◌≤◌, zero-le}
use mathlib.Core.Path.{◌≡◌, sym, ap, subst, ◌∙◌}
use mathlib.Core.Bool.{Bool}
use mathlib.Core.List.{List}
use native.Mathlib.Omega.{arith}
use lib.ListN.{length, take, drop, length-drop}
use lib.Seq.{take_all}
use Rattle.refusal.specs.Numbers.{number_of, values_of}
use Rattle.refusal.specs.declared.Refusal.{Refusal}
use Rattle.item.specs.Said.{Said, more, finish, refusing}
use Rattle.state.specs.State.{reader_with, good_reader}
use Rattle.state.specs.declared.Memory.{Memory}
use Rattle.state.specs.Reading.{Event, Step, is_closed, good_call, read_call, reader_after}
use Rattle.state.specs.Views.{event_is}
use Rattle.state.specs.Slim.{said_is, slim_said, slim_step}
use Rattle.state.specs.steps.Inside.{done}
use Rattle.state.specs.Laws.{used_in, Sound}
use Rattle.state.specs.declared.Scalars.{Scalars}
use Rattle.state.specs.declared.Reader.{Reader}
use Rattle.state.specs.declared.Event as code
use Rattle.state.specs.declared.Answer.TheVariants as answers
use Rattle.state.specs.declared.Outcome.{Outcome}
use Rattle.state.proofs.Every.{by_cond}
use Rattle.state.proofs.Numbers.{picks_first}
use Rattle.state.proofs.Theorems.{open_call_keeps, readers_stay_sound}
use Rattle.calls.specs.Calls.{Seen, is_pending, seen_by}
use Rattle.calls.specs.Along.{wants_more, finishes, is_refused, stopped, before, on_said, along, calls}
use Rattle.rows.proofs.Frame.{Alike, good_alike}
use Rattle.calls.proofs.Slims.{slim_used, Gave, gave, said_more, said_finish, said_refuses}

-- the rest of a window, as the code takes it
pub rest_is : (w : List ℕ) (a : ℕ) → take (length w - a) (drop a w) ≡ drop a w
rest_is w a = take_all (length w - a) (drop a w) (omega (arith, length-drop a w))

-- ---- with the ten numbers and the former ten that the last input left

abbrev pub reader_of : Scalars → Memory → Reader
reader_of s m = reader_with s m.entries

module _ (s : Scalars) (m : Memory) (w : List ℕ) (last : Bool) (sound : Sound (reader_of s m)) where
  pub call_alike : Alike (good_call s m w last) (read_call (reader_of s m) w last)
  unfolding read_call
  call_alike =
      subst (Alike (good_call s m w last)) (picks_first (good_reader (reader_of s m)) _ _ sound.good)
      (good_alike m.entries m.input m.former _ _ s w last)

  call_uses : used_in (good_call s m w last).said ≤ length w
  unfolding good_call
  call_uses =
      by_cond (λ (t : Step). used_in t.said ≤ length w) (is_closed s.standing) (λ _. zero-le) (λ _. (open_call_keeps s m w last).within)

  module _ (o : Outcome) (m' : Memory) (e : done o m' ≡ slim_step (good_call s m w last)) where
    pub left_is : reader_of o.scalars m' ≡ reader_after (read_call (reader_of s m) w last)
    left_is =
        ap reader_after e ∙ (λ i. record { scalars = call_alike.scalars i; entries = call_alike.entries i })

    pub stays_sound : Sound (reader_of o.scalars m')
    stays_sound = rw left_is (readers_stay_sound (reader_of s m) w last sound)

    said_is_law : slim_said (read_call (reader_of s m) w last).said ≡ said_is o.answer
    said_is_law = sym (ap (λ (t : Step). t.said) e ∙ ap slim_said call_alike.said)

    pub uses : used_in (said_is o.answer) ≤ length w
    uses = rw (ap (λ (t : Step). used_in t.said) e ∙ slim_used (good_call s m w last).said) call_uses

    -- by what the call says
    by_said : (k : ℕ) (x : Said Event) → (read_call (reader_of s m) w last).said ≡ x → calls (suc k) (reader_of s m) w last
        ≡ on_said x (λ d n. before (seen_by (is_pending s.pending) w (read_call (reader_of s m) w last) d n) (calls k (reader_of o.scalars m') (drop n w) last))
        (reader_of o.scalars m')
    unfolding along
    by_said k x h =
        λ i. on_said (h i)
        (λ d n. before (seen_by (is_pending s.pending) w (read_call (reader_of s m) w last) d n) (calls k (sym left_is i) (drop n w) last))
        (sym left_is i)

    pub ends_more : (k : ℕ) → o.answer ≡ answers.More → calls (suc k) (reader_of s m) w last ≡ stopped wants_more 0 (reader_of o.scalars m')
    ends_more k a = by_said k more (said_more _ (said_is_law ∙ ap said_is a))

    pub ends_finish : (k n : ℕ) → o.answer ≡ answers.Finish n → calls (suc k) (reader_of s m) w last ≡ stopped finishes n (reader_of o.scalars m')
    ends_finish k n a = by_said k (finish n) (said_finish _ n (said_is_law ∙ ap said_is a))

    pub ends_refused : (k : ℕ) (r : Refusal) → o.answer ≡ answers.Refused r
        → calls (suc k) (reader_of s m) w last ≡ stopped (is_refused (number_of r) (values_of r)) 0 (reader_of o.scalars m')
    ends_refused k r a = by_said k (refusing r) (said_refuses _ _ _ (said_is_law ∙ ap said_is a))

    module _ (v : code.Event) (n : ℕ) (a : o.answer ≡ answers.Event v n) where
      pub given : Gave (read_call (reader_of s m) w last).said (event_is v) n
      given = gave _ (event_is v) n (said_is_law ∙ ap said_is a)

      abbrev pub seen : Seen
      seen = seen_by (is_pending s.pending) w (read_call (reader_of s m) w last) given.event n

      pub goes_to : (k : ℕ) → calls (suc k) (reader_of s m) w last ≡ before seen (calls k (reader_of o.scalars m') (drop n w) last)
      goes_to k = by_said k _ given.said
