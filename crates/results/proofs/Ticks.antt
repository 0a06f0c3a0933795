-- The tick that the events open is the reader's while a tick is open, and a finish comes in no other. Assumes nothing.
use Prim.Native.Nat.{ℕ}
use mathlib.Core.Path.{◌≡◌, refl, sym, ap, ◌∙◌}
use mathlib.Core.Bool.{Bool, true, false≢true}
use mathlib.Core.List.{List}
use lib.IntN.{ℤ}
use Rattle.item.specs.Said.{Said, gives, more, finish, refuses}
use Rattle.state.specs.declared.Memory.{Memory}
use Rattle.state.specs.Reading.{Event, tick_start, tick_end, player_new, player_change, player_old, input, other, Step, read_call}
use Rattle.state.specs.steps.Parts.{memory_of}
use Rattle.state.specs.Laws.{InTick, Ticked, SaidLeaves}
use Rattle.state.specs.Acts.{ReadAct}
use Rattle.state.specs.Acts as act
use Rattle.state.specs.declared.Scalars.{Scalars}
use Rattle.state.specs.declared.Reader.{Reader}
use Rattle.state.proofs.Acts.{read_acts}
use Rattle.state.proofs.Calls.{keeps}
use Rattle.results.specs.Results.{finish_of, tick_after}

-- ---- one event

-- k is the reader's tick if one is open
abbrev pub Open : ℤ → Scalars → Type 0
Open k s = s.inside ≡ true → k ≡ s.tick

pub open_now : (s : Scalars) → Open s.tick s
open_now s i = refl

module _ (k : ℤ) (s t : Scalars) where
  still_open : InTick s t → Open k s → Open k t
  still_open h o i = o h.0 ∙ sym h.1.1

  pub stays_open : (e : Event) → Ticked e s t → Open k s → Open (tick_after k e) t
  stays_open (tick_start j) h o = λ i. sym h.1.1
  stays_open (tick_end j) h o = λ i. absurd (false≢true (sym h.1.1 ∙ i))
  stays_open (player_new c x y) h o = still_open h o
  stays_open (player_change c x y old-x old-y) h o = still_open h o
  stays_open (player_old c x y) h o = still_open h o
  stays_open (input c former) h o = still_open h o
  stays_open (other c) h o = still_open h o

  pub finish_at : (e : Event) → Ticked e s t → Open k s → finish_of k e ≡ finish_of s.tick e
  finish_at (tick_start j) h o = refl
  finish_at (tick_end j) h o = refl
  finish_at (player_new c x y) h o = refl
  finish_at (player_change c x y old-x old-y) h o = refl
  finish_at (player_old c x y) h o = refl
  finish_at (input c former) h o = refl
  finish_at (other c) h o = ap (λ (j : ℤ). finish_of j (other c)) (o h.0)

  -- the call leaves that tick
  pub finish_behind : (e : Event) → Ticked e s t → Open k s → finish_of k e ≡ finish_of t.tick e
  finish_behind (tick_start j) h o = refl
  finish_behind (tick_end j) h o = refl
  finish_behind (player_new c x y) h o = refl
  finish_behind (player_change c x y old-x old-y) h o = refl
  finish_behind (player_old c x y) h o = refl
  finish_behind (input c former) h o = refl
  finish_behind (other c) h o = ap (λ (j : ℤ). finish_of j (other c)) (o h.0 ∙ sym h.1.1)

-- ---- one call

abbrev TickedSaid : Said Event → Scalars → Scalars → Type 0
TickedSaid (gives e n) s t = Ticked e s t
TickedSaid more s t = Unit {0}
TickedSaid (finish n) s t = Unit {0}
TickedSaid (refuses k vs) s t = Unit {0}

told : (s : Scalars) (m : Memory) (last : Bool) (t : Step) (a : Said Event) → SaidLeaves a s m last t → TickedSaid a s t.scalars
told s m last t (gives e n) h = h
told s m last t more h = tt
told s m last t (finish n) h = tt
told s m last t (refuses k vs) h = tt

read_ticked : {r : Reader} {w : List ℕ} {last : Bool} {t : Step} → ReadAct r w last t → TickedSaid t.said r.scalars t.scalars
read_ticked (act.on_bad g) = tt
read_ticked (act.on_closed g c) = tt
read_ticked {r} {w} {last} {t} (act.on_open g o a) =
    let m = memory_of r.entries in
    told r.scalars m last t t.said (keeps r.scalars r.entries w last m a).told

pub call_ticked : (r : Reader) (w : List ℕ) (last : Bool) (e : Event) (n : ℕ) → (read_call r w last).said ≡ gives e n
    → Ticked e r.scalars (read_call r w last).scalars
call_ticked r w last e n h = rw h at (read_ticked (read_acts r w last))
