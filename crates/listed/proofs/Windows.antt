-- A list beside a reader over two windows is that of one call on all the bytes. Assumes nothing.
use Prim.Native.Nat.{ℕ, zero, suc, ◌+◌}
use mathlib.Core.Path.{◌≡◌, refl, sym, ap, subst, ◌∙◌}
use mathlib.Core.Bool.{Bool, true, false, cond}
use mathlib.Core.List.{List, ◌∷◌, ◌++◌}
use native.Mathlib.Omega.{arith}
use lib.ListN.{length, drop}
use lib.Seq.{drop-drop, drop-append-le}
use lib.IntN.{ℤ}
use Rattle.item.specs.Said.{Said, gives, more, finish, refuses}
use Rattle.refusal.specs.declared.Refusal.TheVariants.{BadState}
use Rattle.state.specs.Reading.{Event, Step, read_call, reader_after}
use Rattle.state.specs.declared.Reader.{Reader}
use Rattle.state.proofs.Numbers.{picks_first}
use Rattle.calls.specs.Calls.{is_pending, seen_by}
use Rattle.calls.specs.Along.{wants_more, Run, stopped, before, on_said, along, all_of, calls, enough}
use Rattle.calls.proofs.Singles.{uses_within, more_leaves, call_longer}
use Rattle.calls.proofs.Runs.{first_seen, follow}
use Rattle.calls.proofs.Theorems.{enough_calls}
use Rattle.results.specs.Results.{Finish, tick_after, ticks_after, finishes_in, keep, fits}
use Rattle.results.specs.declared.Results.{Results}
use Rattle.results.proofs.Theorems.{keeps_on, finishes_go_on}
use Rattle.listing.specs.Listing.{whole_run, events_of, finishes_of, some_seen, ListRun, list_run}
use Rattle.listing.specs.steps.Lists.{unchanged}
use Rattle.listed.specs.Laws.{Together, BesideIsWhole}
use Rattle.results.proofs.Ticks.{Open, open_now, stays_open, call_ticked}
use Rattle.listed.proofs.Ticks.{finishes_at_law}

-- ---- runs

-- a run on a first window that wants more, the run on what it left and what comes behind it, and the run on all
record Joins (first second whole : Run) (k : ℤ) : Type 0 where
  halt : whole.halt ≡ second.halt
  bytes : whole.used ≡ first.used + second.used
  reader : whole.reader ≡ second.reader
  events : events_of whole.seen ≡ events_of first.seen ++ events_of second.seen
  -- the tick that the events of the first one open is the reader's
  opens : Open (ticks_after k (events_of first.seen)) first.reader.scalars

module _ (c m : ℕ) (r : Reader) (a b : List ℕ) (last : Bool) (k : ℤ) (o : Open k r.scalars) where
  abbrev t : Step
  t = read_call r a false

  abbrev Joined : Run → Type 0
  Joined first = Joins first (calls m first.reader (drop first.used a ++ b) last) (calls (length first.seen + m) r (a ++ b) last) k

  -- a call that gives an event gives it on a longer window too
  longer_call : (e : Event) (n : ℕ) → t.said ≡ gives e n → (j : ℕ)
      → calls (suc j) r (a ++ b) last ≡ before (seen_by (is_pending r.scalars.pending) (a ++ b) t e n) (calls j (reader_after t) (drop n a ++ b) last)
  unfolding along
  longer_call e n s j =
      let pend = is_pending r.scalars.pending in
      let then : Step → Said Event → Run = λ u x. on_said x (λ d i. before (seen_by pend (a ++ b) u d i) (calls j (reader_after u) (drop i (a ++ b)) last)) (reader_after u) in
      ap (λ (u : Step). then u u.said) (call_longer r a b last (rw s tt))
      ∙ ap (then t) s
      ∙ ap (λ (l : List ℕ). before (seen_by pend (a ++ b) t e n) (calls j (reader_after t) l last)) (drop-append-le n a b (uses_within r a false e n s))

  an_event_law : (e : Event) (n : ℕ) → t.said ≡ gives e n → (first : Run)
      → Joins first (calls m first.reader (drop first.used (drop n a) ++ b) last) (calls (length first.seen + m) (reader_after t) (drop n a ++ b) last) (tick_after k e)
      → Joined (before (first_seen (all_of false) c r a e n) first)
  unfolding ticks_after
  an_event_law e n s first j =
      let q : suc (length first.seen) + m ≡ suc (length first.seen + m) = omega arith in
      rw (← drop-drop first.used n a, q, longer_call e n s (length first.seen + m))
      (record {
        halt = j.halt;
        bytes = omega (arith, j.bytes);
        reader = j.reader;
        events = ap (λ (es : List Event). e ∷ es) j.events;
        opens = j.opens;
      })

  at_once : (q : Reader) → q ≡ r → Joins (stopped wants_more 0 q) (calls m q (a ++ b) last) (calls (0 + m) r (a ++ b) last) k
  unfolding ticks_after
  at_once q e =
      let z : 0 + m ≡ m = omega arith in
      rw (z, e) (record { halt = refl; bytes = omega arith; reader = refl; events = refl; opens = o })

  joins_said : (x : Said Event) → t.said ≡ x → (follow (all_of false) c r a x).halt ≡ wants_more
      → ((n : ℕ) (j : ℤ) → Open j t.scalars → (calls c (reader_after t) (drop n a) false).halt ≡ wants_more
      → let first = calls c (reader_after t) (drop n a) false in
      Joins first (calls m first.reader (drop first.used (drop n a) ++ b) last) (calls (length first.seen + m) (reader_after t) (drop n a ++ b) last) j)
      → Joined (follow (all_of false) c r a x)
  unfolding along ticks_after
  joins_said (gives e n) s h again =
      an_event_law e n s (calls c (reader_after t) (drop n a) false) (again n (tick_after k e) (stays_open k r.scalars t.scalars e (call_ticked r a false e n s) o) h)
  joins_said more s h again = at_once (reader_after t) (more_leaves r a false s).1
  joins_said (finish n) s h again = let z : ◌≡◌ {A = ℕ} 0 1 = cc in absurd (omega arith)
  joins_said (refuses j vs) s h again = let z : ◌≡◌ {A = ℕ} 0 1 = cc in absurd (omega arith)

joins : (c m : ℕ) (r : Reader) (a b : List ℕ) (last : Bool) (k : ℤ) → Open k r.scalars → (calls c r a false).halt ≡ wants_more
    → let first = calls c r a false in
    Joins first (calls m first.reader (drop first.used a ++ b) last) (calls (length first.seen + m) r (a ++ b) last) k
unfolding along
joins zero m r a b last k o h = let z : ◌≡◌ {A = ℕ} 0 1 = cc in absurd (omega arith)
joins (suc c) m r a b last k o h =
    joins_said c m r a b last k o (read_call r a false).said refl h
    (λ n j p q. joins c m (reader_after (read_call r a false)) (drop n a) b last j p q)

-- with as many calls as each wants
module _ (r : Reader) (a b : List ℕ) (last : Bool) (h : (whole_run r a false).halt ≡ wants_more) where
  abbrev first : Run
  first = whole_run r a false

  abbrev left : List ℕ
  left = drop first.used a ++ b

  abbrev second : Run
  second = whole_run first.reader left last

  abbrev whole : Run
  whole = whole_run r (a ++ b) last

  runs_join : Joins first second whole r.scalars.tick
  runs_join =
      let n = length first.seen in
      let q : n + (enough left + enough (a ++ b)) ≡ enough (a ++ b) + (n + enough left) = omega arith in
      rw (enough_calls (all_of last) (λ l. omega arith) (enough (a ++ b)) first.reader left, q, enough_calls (all_of last) (λ l. omega arith) (n + enough left) r (a ++ b))
      at (joins (enough a) (enough left + enough (a ++ b)) r a b last r.scalars.tick (open_now r.scalars) h)

  -- the finishes of both, in the ticks of their readers
  both_finish : finishes_of r whole ≡ finishes_of r first ++ finishes_of first.reader second
  both_finish =
      let k = r.scalars.tick in
      let es = events_of first.seen in
      let ds = events_of second.seen in
      let q = first.reader in
      ap (finishes_in k) runs_join.events
      ∙ finishes_go_on k es ds
      ∙ ap (λ (fs : List Finish). finishes_in k es ++ fs)
      (finishes_at_law (enough left) q left last (ticks_after k es) runs_join.opens
      ∙ sym (finishes_at_law (enough left) q left last q.scalars.tick (open_now q.scalars)))

  both_kept : (l : Results) → keep (keep l (finishes_of r first)) (finishes_of first.reader second) ≡ keep l (finishes_of r whole)
  both_kept l = sym (ap (keep l) both_finish ∙ keeps_on l (finishes_of r first) (finishes_of first.reader second))

-- ---- lists

abbrev answered : Run → Results → ListRun
answered run l = record { halt = run.halt; gave = some_seen run.seen; used = run.used; list = l; reader = run.reader }

-- where the count can rise that far
counts : (l : Results) (r : Reader) (run : Run) → fits (keep l (finishes_of r run)) ≡ true → answered run (keep l (finishes_of r run)) ≡ list_run l r run
counts l r run f = picks_first (fits (keep l (finishes_of r run))) _ _ f

module _ (l : Results) (r : Reader) (a b : List ℕ) (last : Bool) where
  -- a first call that wants more could count
  wants_counts : (f : Bool) (x : ListRun) → (cond f x (unchanged BadState l r)).halt ≡ wants_more → (f ≡ true) × (x.halt ≡ wants_more)
  wants_counts true x h = (refl, h)
  wants_counts false x h = let z : ◌≡◌ {A = ℕ} 0 1 = cc in absurd (omega arith)

  together : (h : (whole_run r a false).halt ≡ wants_more) → fits (keep l (finishes_of r (whole_run r (a ++ b) last))) ≡ true
      → let x = answered (whole_run r a false) (keep l (finishes_of r (whole_run r a false))) in
      Together x (list_run x.list x.reader (whole_run x.reader (drop x.used a ++ b) last)) (list_run l r (whole_run r (a ++ b) last))
  together h g =
      let j = runs_join r a b last h in
      let both = both_kept r a b last h l in
      let m = keep l (finishes_of r (whole_run r a false)) in
      let q = (whole_run r a false).reader in
      let s = counts m q (second r a b last h) (ap fits both ∙ g) in
      let w = counts l r (whole r a b last h) g in
      record {
        halt = ap (λ (x : ListRun). x.halt) (sym s) ∙ sym j.halt ∙ ap (λ (x : ListRun). x.halt) w;
        bytes = ap (λ (x : ListRun). (first r a b last h).used + x.used) (sym s) ∙ sym j.bytes ∙ ap (λ (x : ListRun). x.used) w;
        list = ap (λ (x : ListRun). x.list) (sym s) ∙ both ∙ ap (λ (x : ListRun). x.list) w;
        reader = ap (λ (x : ListRun). x.reader) (sym s) ∙ sym j.reader ∙ ap (λ (x : ListRun). x.reader) w;
      }

pub beside_is_whole : BesideIsWhole
beside_is_whole l r a b last h g =
    let run = whole_run r a false in
    let w = wants_counts l r a b last (fits (keep l (finishes_of r run))) (answered run (keep l (finishes_of r run))) h in
    subst (λ (x : ListRun). Together x (list_run x.list x.reader (whole_run x.reader (drop x.used a ++ b) last)) (list_run l r (whole_run r (a ++ b) last)))
    (counts l r run w.0) (together l r a b last w.1 g)
