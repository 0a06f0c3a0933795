-- Calls along bytes: as a list of calls, in two parts, and how many events they give. Assumes nothing.
use Prim.Native.Nat.{ℕ, zero, suc, ◌+◌, ◌*◌, ◌-◌, ◌≤◌, ◌<◌, min, zero-le}
use mathlib.Core.Path.{◌≡◌, refl, sym, ap, ◌∙◌}
use mathlib.Core.Bool.{Bool}
use mathlib.Core.List.{List, [], ◌∷◌, ◌++◌}
use native.Mathlib.Omega.{arith}
use lib.Dec.{leb}
use lib.ListN.{length, drop, length-append, length-drop}
use lib.Seq.{drop-drop}
use borrow.Author.Tests.{leb-true, leb-false}
use Rattle.num.proofs.Cases.{by_bool}
use Rattle.item.specs.Said.{Said, gives, more, finish, refuses}
use Rattle.state.specs.State.{ten_of}
use Rattle.state.specs.declared.Memory.{Memory}
use Rattle.state.specs.Reading.{Event, Step, sums, reader_after}
use Rattle.state.specs.Laws.{used_in}
use Rattle.state.specs.Acts.{Act, ReadAct}
use Rattle.state.specs.Acts as act
use Rattle.state.specs.declared.Entries.{Entries}
use Rattle.state.specs.declared.Scalars.{Scalars}
use Rattle.state.specs.declared.Reader.{Reader}
use Rattle.state.proofs.Acts.{ten_numbers, read_acts}
use Rattle.calls.specs.Calls.{Call, call, Seen, is_pending, seen_by, seen_in, after, events}
use Rattle.calls.specs.Along.{Halt, is_full, wants_more, finishes, is_refused, Run, before, on_said, along, enough}
use Rattle.calls.specs.Laws.{last_first, IsList, RunsAreLists, continued, RunsSplit, FewEvents, TensBeside, RunTens, Within, EventsOfFew}
use Rattle.calls.proofs.Singles.{uses_within, call_within}
use Rattle.calls.proofs.Ranks.{rank, rank_le, call_falls}

-- ---- what follows a first call that says a

module _ (see : List ℕ → Call) (k : ℕ) (r : Reader) (bytes : List ℕ) where
  abbrev pub first_step : Step
  first_step = call r (see bytes)

  abbrev pub first_seen : Event → ℕ → Seen
  first_seen e n = seen_by (is_pending r.scalars.pending) (see bytes).window first_step e n

  abbrev pub follow : Said Event → Run
  follow a = on_said a (λ e n. before (first_seen e n) (along see k (reader_after first_step) (drop n bytes))) (reader_after first_step)

-- ---- a list of calls

module _ (see : List ℕ → Call) (k : ℕ) (r : Reader) (bytes : List ℕ) (again : (q : Reader) (b : List ℕ) → IsList q (along see k q b)) where
  list_said : (a : Said Event) → (first_step see k r bytes).said ≡ a → IsList r (follow see k r bytes a)
  unfolding after events last_first
  list_said (gives e n) s =
      let l = again (reader_after (first_step see k r bytes)) (drop n bytes) in
      record {
        list = see bytes ∷ l.list;
        left = l.left;
        same =
            (λ i. l.same i ++ seen_in (s i) (first_seen see k r bytes));
      }
  list_said more s = record { list = see bytes ∷ []; left = refl; same = ap (λ (a : Said Event). seen_in a (first_seen see k r bytes)) s }
  list_said (finish n) s = record { list = see bytes ∷ []; left = refl; same = ap (λ (a : Said Event). seen_in a (first_seen see k r bytes)) s }
  list_said (refuses n vs) s = record { list = see bytes ∷ []; left = refl; same = ap (λ (a : Said Event). seen_in a (first_seen see k r bytes)) s }

pub runs_are_lists : RunsAreLists
unfolding along after events last_first
runs_are_lists see zero r bytes = record { list = []; left = refl; same = refl }
runs_are_lists see (suc k) r bytes = list_said see k r bytes (λ q b. runs_are_lists see k q b) _ refl

-- ---- two parts

continued_before : (h : Halt) (x : Seen) (a b : Run) → continued h (before x a) b ≡ before x (continued h a b)
continued_before is_full x a b =
    let e : x.used + a.used + b.used ≡ x.used + (a.used + b.used) = omega arith in
    ap (λ (n : ℕ). record { seen = x ∷ a.seen ++ b.seen; halt = b.halt; used = n; reader = b.reader }) e
continued_before wants_more x a b = refl
continued_before finishes x a b = refl
continued_before (is_refused k vs) x a b = refl

abbrev Splits : (List ℕ → Call) → ℕ → ℕ → Reader → List ℕ → Run → Run → Type 0
Splits see a b r bytes whole part = whole ≡ continued part.halt part (along see b part.reader (drop part.used bytes))

module _ (see : List ℕ → Call) (a b : ℕ) (r : Reader) (bytes : List ℕ)
    (again : (q : Reader) (l : List ℕ) → Splits see a b q l (along see (a + b) q l) (along see a q l)) where
  split_said : (s : Said Event) → Splits see a b r bytes (follow see (a + b) r bytes s) (follow see a r bytes s)
  split_said (gives e n) =
      let t = reader_after (first_step see a r bytes) in
      let x = first_seen see a r bytes e n in
      let run = along see a t (drop n bytes) in
      ap (before x) (again t (drop n bytes))
      ∙ sym (continued_before run.halt x run (along see b run.reader (drop run.used (drop n bytes))))
      ∙ ap (λ (l : List ℕ). continued run.halt (before x run) (along see b run.reader l)) (drop-drop run.used n bytes)
  split_said more = refl
  split_said (finish n) = refl
  split_said (refuses k vs) = refl

pub runs_split : RunsSplit
unfolding along
runs_split see zero b r bytes =
    let e : 0 + b ≡ b = omega arith in
    let run = along see b r bytes in
    let u : run.used ≡ 0 + run.used = omega arith in
    rw e (λ i. record { seen = run.seen; halt = run.halt; used = u i; reader = run.reader })
runs_split see (suc a) b r bytes =
    let e : suc a + b ≡ suc (a + b) = omega arith in
    rw e (split_said see a b r bytes (λ q l. runs_split see a b q l) (first_step see a r bytes).said)

-- ---- how many events

abbrev Few : ℕ → Run → Type 0
Few k run = (length run.seen ≤ k) × (run.halt ≡ is_full → length run.seen ≡ k)

few_said : (see : List ℕ → Call) (k : ℕ) (r : Reader) (bytes : List ℕ) (a : Said Event)
    → ((q : Reader) (l : List ℕ) → Few k (along see k q l)) → Few (suc k) (follow see k r bytes a)
few_said see k r bytes (gives e n) f =
    let l = f (reader_after (first_step see k r bytes)) (drop n bytes) in
    (omega (arith, l.0), λ h. ap suc (l.1 h))
few_said see k r bytes more f = (zero-le, λ h. let z : ◌≡◌ {A = ℕ} 0 1 = cc in absurd (omega arith))
few_said see k r bytes (finish n) f = (zero-le, λ h. let z : ◌≡◌ {A = ℕ} 0 1 = cc in absurd (omega arith))
few_said see k r bytes (refuses n vs) f = (zero-le, λ h. let z : ◌≡◌ {A = ℕ} 0 1 = cc in absurd (omega arith))

pub few_events : FewEvents
unfolding along
few_events see zero r bytes = (zero-le, λ h. refl)
few_events see (suc k) r bytes = few_said see k r bytes (first_step see k r bytes).said (λ q l. few_events see k q l)

-- ---- ten numbers beside each

abbrev Ten : Step → Type 0
Ten t = (length t.memory.input ≡ 10) × (length t.memory.former ≡ 10)

module _ {s : Scalars} {e : Entries} {w : List ℕ} {last : Bool} where
  act_ten : {f : Memory → Step} (m : Memory) → (length m.input ≡ 10) × (length m.former ≡ 10) → Act s e w last f → Ten (f m)
  unfolding sums ten_of
  act_ten m h (act.wants_more l _) = h
  act_ten m h (act.finishes d o) = h
  act_ten m h (act.refuses_plain r _) = h
  act_ten m h (act.refuses_player r c _) = h
  act_ten m h (act.refuses_input r c _) = h
  act_ten m h (act.refuses13 _ _ b p) = h
  act_ten m h (act.tick_starts d q o) = h
  act_ten m h (act.tick_ends d p i b x) = h
  act_ten m h (act.last_tick_ends d i) = h
  act_ten m h (act.skip_starts d o x) = h
  act_ten m h (act.skip_ends d i x) = h
  act_ten m h (act.player_comes d g b o) = h
  act_ten m h (act.player_moves d g p x y) = h
  act_ten m h (act.player_leaves d g p) = h
  act_ten m h (act.input_comes d i f b) = (ten_numbers d, refl)
  act_ten m h (act.input_moves d i f p) = (refl, refl)
  act_ten m h (act.passes d k i) = h

read_ten : {r : Reader} {w : List ℕ} {last : Bool} {t : Step} → ReadAct r w last t → Ten t
read_ten (act.on_bad g) = (refl, refl)
read_ten (act.on_closed g c) = (refl, refl)
read_ten (act.on_open g o a) = act_ten _ (refl, refl) a

tens_said : (see : List ℕ → Call) (k : ℕ) (r : Reader) (bytes : List ℕ) (a : Said Event)
    → ((q : Reader) (l : List ℕ) → TensBeside (along see k q l).seen) → TensBeside (follow see k r bytes a).seen
unfolding TensBeside
tens_said see k r bytes (gives e n) f =
    (read_ten (read_acts r (see bytes).window (see bytes).last), f (reader_after (first_step see k r bytes)) (drop n bytes))
tens_said see k r bytes more f = tt
tens_said see k r bytes (finish n) f = tt
tens_said see k r bytes (refuses n vs) f = tt

pub run_tens : RunTens
unfolding along TensBeside
run_tens see zero r bytes = tt
run_tens see (suc k) r bytes = tens_said see k r bytes (first_step see k r bytes).said (λ q l. run_tens see k q l)

-- ---- where no call sees more than the bytes that are left

module _ (see : List ℕ → Call) (in_front_law : Within see) where
  used_said : (k : ℕ) (r : Reader) (bytes : List ℕ) (a : Said Event) → (first_step see k r bytes).said ≡ a
      → ((q : Reader) (l : List ℕ) → (along see k q l).used ≤ length l) → (follow see k r bytes a).used ≤ length bytes
  used_said k r bytes a s f = by_answer a (rw s at (call_within r (see bytes).window (see bytes).last))
    where
      by_answer : (a : Said Event) → used_in a ≤ length (see bytes).window → (follow see k r bytes a).used ≤ length bytes
      by_answer (gives e n) h =
          omega (arith, f (reader_after (first_step see k r bytes)) (drop n bytes), length-drop n bytes, in_front_law bytes)
      by_answer more h = zero-le
      by_answer (finish n) h = omega (arith, in_front_law bytes)
      by_answer (refuses n vs) h = zero-le

  pub run_within : (k : ℕ) (r : Reader) (bytes : List ℕ) → (along see k r bytes).used ≤ length bytes
  unfolding along
  run_within zero r bytes = zero-le
  run_within (suc k) r bytes = used_said k r bytes _ refl (λ q l. run_within k q l)

  same_said : (k j : ℕ) (r : Reader) (bytes : List ℕ) (a : Said Event) → (first_step see k r bytes).said ≡ a
      → ((e : Event) (n : ℕ) → (first_step see k r bytes).said ≡ gives e n
      → along see k (reader_after (first_step see k r bytes)) (drop n bytes) ≡ along see j (reader_after (first_step see k r bytes)) (drop n bytes))
      → follow see k r bytes a ≡ follow see j r bytes a
  same_said k j r bytes (gives e n) s f = ap (before (first_seen see k r bytes e n)) (f e n s)
  same_said k j r bytes more s f = refl
  same_said k j r bytes (finish n) s f = refl
  same_said k j r bytes (refuses n vs) s f = refl

  -- each event uses a byte or lowers the rank
  stable : (c k : ℕ) (r : Reader) (bytes : List ℕ) → 5 * length bytes + rank r.scalars < c → along see (c + k) r bytes ≡ along see c r bytes
  unfolding along
  stable zero k r bytes h = absurd (omega arith)
  stable (suc c) k r bytes h =
      let q : suc c + k ≡ suc (c + k) = omega arith in
      let t = call r (see bytes) in
      rw q
      (same_said (c + k) c r bytes t.said refl
      (λ e n s.
      let f : rank t.scalars + 1 ≤ rank r.scalars + 5 * n = rw s at (call_falls r (see bytes).window (see bytes).last) in
      let u = uses_within r (see bytes).window (see bytes).last e n s in
      stable c k (reader_after t) (drop n bytes) (omega (arith, in_front_law bytes, length-drop n bytes))))

  pub enough_calls : (k : ℕ) (r : Reader) (bytes : List ℕ) → along see (enough bytes + k) r bytes ≡ along see (enough bytes) r bytes
  enough_calls k r bytes = stable (enough bytes) k r bytes (omega (arith, rank_le r.scalars))

-- the events of a first part are the first ones
continued_count : (h : Halt) (k : ℕ) (a b : Run) → a.halt ≡ h → Few k a → length a.seen ≡ min k (length (continued h a b).seen)
continued_count is_full k a b e f = omega (arith, f.1 e, length-append a.seen b.seen)
continued_count wants_more k a b e f = omega (arith, f.0)
continued_count finishes k a b e f = omega (arith, f.0)
continued_count (is_refused n vs) k a b e f = omega (arith, f.0)

first_part : (see : List ℕ → Call) (k j : ℕ) (r : Reader) (bytes : List ℕ)
    → length (along see k r bytes).seen ≡ min k (length (along see (k + j) r bytes).seen)
first_part see k j r bytes =
    let a = along see k r bytes in
    rw (runs_split see k j r bytes) (continued_count a.halt k a _ refl (few_events see k r bytes))

pub events_of_few : EventsOfFew
events_of_few see w k r bytes =
    by_bool (leb k (enough bytes))
    (λ t.
    let h = leb-true k (enough bytes) t in
    let e : enough bytes ≡ k + (enough bytes - k) = omega arith in
    rw e (first_part see k (enough bytes - k) r bytes))
    (λ t.
    let h = leb-false k (enough bytes) t in
    let e : k ≡ enough bytes + (k - enough bytes) = omega arith in
    let f = (few_events see (enough bytes) r bytes).0 in
    let s = ap (λ (n : ℕ). length (along see n r bytes).seen) e
    ∙ ap (λ (x : Run). length x.seen) (enough_calls see w (k - enough bytes) r bytes) in
    s ∙ omega (arith, h, f))
