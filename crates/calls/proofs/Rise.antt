-- Ticks never fall, and who has inputs keeps having inputs: a clause for each act, then any list of calls. Assumes nothing.
use Rattle.std.specs.Prelude.{Some, None}
use Prim.Native.Nat.{ℕ, zero, suc, ◌+◌}
use mathlib.Core.Path.{◌≡◌, refl}
use mathlib.Core.Bool.{Bool, true, false, cond, ◌&&◌}
use mathlib.Core.List.{List, [], ◌∷◌}
use native.Mathlib.Omega.{arith}
use lib.ListN.{get_or, set}
use lib.Dec.{ltb, eqb}
use lib.IntN.{ℤ, pos, negsuc}
use lib.Signed.{lt_z}
use borrow.Author.Tests.{ltb-true, ltb-false, lt-ltb, le-ltb}
use Rattle.state.specs.State.{holds}
use Rattle.state.specs.declared.Memory.{Memory}
use Rattle.state.specs.Reading.{Step, is_closed, closing, raising, naming, starting, ending, skipping, next_tick, reader_after}
use Rattle.state.specs.steps.Parts.{memory_of}
use Rattle.state.specs.Acts.{Act, ReadAct}
use Rattle.state.specs.Acts as act
use Rattle.state.specs.declared.Entries.{Entries}
use Rattle.state.specs.declared.Scalars.{Scalars}
use Rattle.state.specs.declared.Reader.{Reader}
use Rattle.state.proofs.Theorems.{read_calls_are_acts}
use Rattle.calls.specs.Calls.{Call, next, after}
use Rattle.fields.proofs.Answers.{and_split, and_both}
use Rattle.calls.specs.Never.{TicksRise, InputsStay}

-- ---- what every call keeps, every list of calls keeps; and what every act on an open reader keeps, every call keeps

pub lists_keep : (Q : Reader → Type 0) → ((r : Reader) (c : Call) → Q r → Q (next r c)) → (r : Reader) (list : List Call) → Q r → Q (after r list)
unfolding after
lists_keep Q keeps r [] q = q
lists_keep Q keeps r (c ∷ list) q = lists_keep Q keeps (next r c) list (keeps r c q)

abbrev pub ByActs : (Reader → Type 0) → Type 0
ByActs Q =
    (r : Reader) (w : List ℕ) (last : Bool) (f : Memory → Step) → is_closed r.scalars.standing ≡ false
    → Act r.scalars r.entries w last f → Q r → Q (reader_after (f (memory_of r.entries)))

module _ (Q : Reader → Type 0) (keeps : ByActs Q) where
  one_keeps : {r : Reader} {w : List ℕ} {last : Bool} {t : Step} → ReadAct r w last t → Q r → Q (reader_after t)
  one_keeps (act.on_bad g) q = q
  one_keeps (act.on_closed g c) q = q
  one_keeps {r} {w} {last} (act.on_open {f} g o a) q = keeps r w last f o a q

  pub after_keeps : (r : Reader) (list : List Call) → Q r → Q (after r list)
  after_keeps = lists_keep Q (λ r c. one_keeps (read_calls_are_acts r c.window c.last))

-- ---- ticks

tick_is : (b : Bool) (x y : ℤ) → cond b None (Some x) ≡ Some y → y ≡ x
tick_is true x y e = absurd (let z : ◌≡◌ {A = ℕ} 0 1 = cc in omega arith)
tick_is false x y e = cc

-- k + 1 ticks on, from a tick that isn't negative
module _ (P : ℤ → ℤ → Type 0) (on : (n k : ℕ) → P (pos n) (pos (n + k + 1))) where
  next_is_law : (a b : ℤ) (k : ℕ) → next_tick a k ≡ Some b → P a b
  unfolding next_tick
  next_is_law (pos n) b k e = rw (tick_is (ltb 2147483647 (n + k + 1)) (pos (n + k + 1)) b e) (on n k)
  next_is_law (negsuc n) b k e = absurd (let z : ◌≡◌ {A = ℕ} 0 1 = cc in omega arith)

not_below : (t : ℤ) (n k : ℕ) → lt_z (pos n) t ≡ false → lt_z (pos (n + k + 1)) t ≡ false
not_below (pos m) n k h = le-ltb (n + k + 1) m (omega (arith, ltb-false n m h))
not_below (negsuc m) n k h = refl

pub above : (t : ℤ) (n k : ℕ) → lt_z t (pos n) ≡ true → lt_z t (pos (n + k + 1)) ≡ true
above (pos m) n k h = lt-ltb m (n + k + 1) (omega (arith, ltb-true m n h))
above (negsuc m) n k h = refl

pub rises : (a b : ℤ) (k : ℕ) → next_tick a k ≡ Some b → lt_z a b ≡ true
rises = next_is_law (λ a b. lt_z a b ≡ true) (λ n k. lt-ltb n (n + k + 1) (omega arith))

pub irrefl : (a : ℤ) → lt_z a a ≡ false
irrefl (pos n) = le-ltb n n (omega arith)
irrefl (negsuc n) = le-ltb n n (omega arith)

module _ (P : ℤ → Type 0) (on : (n k : ℕ) → P (pos n) → P (pos (n + k + 1))) where
  goes : (a b : ℤ) (k : ℕ) → next_tick a k ≡ Some b → P a → P b
  goes = next_is_law (λ a b. P a → P b) on

  pub act_ticks : {s : Scalars} {e : Entries} {w : List ℕ} {last : Bool} {f : Memory → Step} (m : Memory) → Act s e w last f → P s.tick
      → P (f m).scalars.tick
  unfolding closing naming raising starting ending skipping
  act_ticks m (act.wants_more l _) p = p
  act_ticks m (act.finishes h o) p = p
  act_ticks m (act.refuses_plain r _) p = p
  act_ticks m (act.refuses_player r c _) p = p
  act_ticks m (act.refuses_input r c _) p = p
  act_ticks m (act.refuses13 _ _ b q) p = p
  act_ticks m (act.tick_starts h q o) p = p
  act_ticks m (act.tick_ends h q i b x) p = goes _ _ _ x p
  act_ticks m (act.last_tick_ends h i) p = p
  act_ticks m (act.skip_starts h o x) p = goes _ _ _ x p
  act_ticks m (act.skip_ends h i x) p = goes _ _ _ x p
  act_ticks m (act.player_comes h i b o) p = p
  act_ticks m (act.player_moves h i q x y) p = p
  act_ticks m (act.player_leaves h i q) p = p
  act_ticks m (act.input_comes h i q b) p = p
  act_ticks m (act.input_moves h i q b) p = p
  act_ticks m (act.passes h k i) p = p

pub ticks_rise : TicksRise
ticks_rise r list =
    after_keeps (λ q. lt_z q.scalars.tick r.scalars.tick ≡ false)
    (λ q w last f o a h. act_ticks (λ u. lt_z u r.scalars.tick ≡ false) (not_below r.scalars.tick) (memory_of q.entries) a h)
    r list (irrefl r.scalars.tick)

-- ---- inputs

set_keeps : (l : List ℕ) (i j : ℕ) → eqb (get_or l j 0) 1 ≡ true → eqb (get_or (set l i 1) j 0) 1 ≡ true
set_keeps [] i j h = h
set_keeps (x ∷ l) zero zero h = refl
set_keeps (x ∷ l) zero (suc j) h = h
set_keeps (x ∷ l) (suc i) zero h = h
set_keeps (x ∷ l) (suc i) (suc j) h = set_keeps l i j h

held_keeps : (l : List ℕ) (i c : ℕ) → (ltb c 128 && eqb (get_or l c 0) 1) ≡ true → (ltb c 128 && eqb (get_or (set l i 1) c 0) 1) ≡ true
held_keeps l i c h =
    let b = and_split (ltb c 128) (eqb (get_or l c 0) 1) h in
    and_both (ltb c 128) (eqb (get_or (set l i 1) c 0) 1) b.0 (set_keeps l i c b.1)

module _ (c : ℕ) {s : Scalars} {e : Entries} {w : List ℕ} {last : Bool} (m : Memory) where
  act_inputs : {f : Memory → Step} → Act s e w last f → holds e c ≡ true → holds (f m).memory.entries c ≡ true
  act_inputs (act.wants_more l _) p = p
  act_inputs (act.finishes h o) p = p
  act_inputs (act.refuses_plain r _) p = p
  act_inputs (act.refuses_player r k _) p = p
  act_inputs (act.refuses_input r k _) p = p
  act_inputs (act.refuses13 _ _ b q) p = p
  act_inputs (act.tick_starts h q o) p = p
  act_inputs (act.tick_ends h q i b x) p = p
  act_inputs (act.last_tick_ends h i) p = p
  act_inputs (act.skip_starts h o x) p = p
  act_inputs (act.skip_ends h i x) p = p
  act_inputs (act.player_comes h i b o) p = p
  act_inputs (act.player_moves h i q x y) p = p
  act_inputs (act.player_leaves h i q) p = p
  act_inputs (act.input_comes {c = k} h i q b) p = held_keeps e.held k c p
  act_inputs (act.input_moves {c = k} h i q b) p = held_keeps e.held k c p
  act_inputs (act.passes h k i) p = p

pub inputs_stay : InputsStay
inputs_stay r list c =
    after_keeps (λ q. holds q.entries c ≡ true) (λ q w last f o a h. act_inputs c (memory_of q.entries) a h) r list
