-- Nothing but the event of a record that changes no entry has arguments beside it that `slim_step` leaves out. Assumes nothing.
use Rattle.std.specs.Prelude.{Option, Some, None}
use Prim.Native.Nat.{ℕ}
use mathlib.Core.Path.{◌≡◌, refl, ap}
use mathlib.Core.Bool.{Bool, true, false}
use mathlib.Core.List.{List}
use native.Mathlib.Omega.{arith}
use lib.Dec.{ltb}
use lib.IntN.{ℤ, pos, negsuc}
use Rattle.refusal.specs.declared.Refusal.{Refusal}
use Rattle.packer.specs.declared.Part.{Part}
use Rattle.item.specs.Records.{Content}
use Rattle.item.specs.Own.{own_content}
use Rattle.item.specs.Said.{Said, gives, more, finish, refuses}
use Rattle.state.specs.State.{present, holds}
use Rattle.state.specs.declared.Memory.{Memory}
use Rattle.state.specs.Reading.{Event, tick_start, tick_end, player_new, player_change, player_old, input, other, Step, step_of, refusal_step, out_of, next_tick, player_diff, new_player, old_player, input_diff, input_new, tick_skip}
use Rattle.state.specs.Slim.{slim, slim_said, slim_step}
use Rattle.state.specs.steps.Parts.{skipped}
use Rattle.state.specs.declared.Scalars.{Scalars}
use Rattle.state.proofs.Every.{by_cond}

-- ---- the event of a record that is no player's and no input's

abbrev pub other_event : Event → Bool
other_event (tick_start t) = false
other_event (tick_end t) = false
other_event (player_new c x y) = false
other_event (player_change c x y old-x old-y) = false
other_event (player_old c x y) = false
other_event (input c former) = false
other_event (other c) = true

abbrev pub other_said : Said Event → Bool
other_said (gives e used) = other_event e
other_said more = false
other_said (finish used) = false
other_said (refuses k vs) = false

slim_event : (e : Event) → other_event e ≡ false → slim e ≡ e
slim_event (tick_start t) h = refl
slim_event (tick_end t) h = refl
slim_event (player_new c x y) h = refl
slim_event (player_change c x y old-x old-y) h = refl
slim_event (player_old c x y) h = refl
slim_event (input c former) h = refl
slim_event (other c) h = let z : ◌≡◌ {A = ℕ} 0 1 = cc in absurd (omega arith)

-- what is the same of a record without its arguments is the same of every event without them
pub slim_same : {A : Type 0} (f : Event → A) → ((c : Content Part) → f (other (own_content c)) ≡ f (other c)) → (e : Event) → f (slim e) ≡ f e
slim_same f h (tick_start t) = refl
slim_same f h (tick_end t) = refl
slim_same f h (player_new c x y) = refl
slim_same f h (player_change c x y old-x old-y) = refl
slim_same f h (player_old c x y) = refl
slim_same f h (input c former) = refl
slim_same f h (other c) = h c

-- any other event is itself without arguments
pub slim_said_law : (x : Said Event) → other_said x ≡ false → slim_said x ≡ x
slim_said_law (gives e used) h = ap (λ (d : Event). gives d used) (slim_event e h)
slim_said_law more h = refl
slim_said_law (finish used) h = refl
slim_said_law (refuses k vs) h = refl

-- ---- what gives no such event

abbrev pub Calm : Step → Type 0
Calm t = other_said t.said ≡ false

pub slim_calm : (t : Step) → Calm t → slim_step t ≡ t
slim_calm t h = ap (λ (x : Said Event). step_of x t.scalars t.memory) (slim_said_law t.said h)

pub calm_refusal : (r : Refusal) (s : Scalars) (m : Memory) → Calm (refusal_step r s m)
unfolding refusal_step
calm_refusal r s m = refl

pub calm_out : (last : Bool) (s : Scalars) (m : Memory) → Calm (out_of last s m)
unfolding out_of
calm_out true s m = calm_refusal _ s m
calm_out false s m = refl

module _ (s : Scalars) (m : Memory) where
  pub calm_diff : (c dx dy : ℤ) (n : ℕ) → Calm (player_diff s m c dx dy n)
  unfolding player_diff
  calm_diff (pos c) dx dy n = by_cond Calm (present m.entries c) (λ _. refl) (λ _. calm_refusal _ s m)
  calm_diff (negsuc c) dx dy n = calm_refusal _ s m

  pub calm_new : (c x y : ℤ) (n : ℕ) → Calm (new_player s m c x y n)
  unfolding new_player
  calm_new (pos c) x y n =
      by_cond Calm (ltb c 128) (λ _. by_cond Calm (present m.entries c) (λ _. calm_refusal _ s _) (λ _. refl)) (λ _. calm_refusal _ s m)
  calm_new (negsuc c) x y n = calm_refusal _ s m

  pub calm_old : (c : ℤ) (n : ℕ) → Calm (old_player s m c n)
  unfolding old_player
  calm_old (pos c) n = by_cond Calm (present m.entries c) (λ _. refl) (λ _. calm_refusal _ s m)
  calm_old (negsuc c) n = calm_refusal _ s m

  pub calm_input_diff : (c : ℤ) (ds : List ℤ) (n : ℕ) → Calm (input_diff s m c ds n)
  unfolding input_diff
  calm_input_diff (pos c) ds n = by_cond Calm (holds m.entries c) (λ _. refl) (λ _. calm_refusal _ s m)
  calm_input_diff (negsuc c) ds n = calm_refusal _ s m

  pub calm_input_new : (c : ℤ) (ns : List ℤ) (n : ℕ) → Calm (input_new s m c ns n)
  unfolding input_new
  calm_input_new (pos c) ns n = by_cond Calm (ltb c 128) (λ _. refl) (λ _. calm_refusal _ s m)
  calm_input_new (negsuc c) ns n = calm_refusal _ s m

  calm_skipped : (n : ℕ) (x : Option ℤ) → Calm (skipped s m n x)
  calm_skipped n (Some t) = by_cond Calm s.inside (λ _. refl) (λ _. refl)
  calm_skipped n None = calm_refusal _ s m

  pub calm_skip : (dt n : ℕ) → Calm (tick_skip s m dt n)
  unfolding tick_skip
  calm_skip dt n = calm_skipped n (next_tick s.tick dt)
