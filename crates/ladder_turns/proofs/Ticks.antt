-- The finishes of a run don't ask which open tick it is told of. Assumes nothing.
use Prim.Native.Nat.{ℕ, zero, suc}
use mathlib.Core.Path.{◌≡◌, refl, sym, subst, ◌∙◌}
use mathlib.Core.List.{List, ◌++◌}
use lib.ListN.{drop}
use lib.IntN.{ℤ}
use Rattle.item.specs.Said.{Said, gives, more, finish, refuses}
use Rattle.state.specs.Reading.{Event, Step, reader_after}
use Rattle.state.specs.declared.Reader.{Reader}
use Rattle.calls.specs.Calls.{Call, call, is_pending, seen_by}
use Rattle.calls.specs.Along.{Halt, is_full, wants_more, finishes, is_refused, Run, before, on_said, along}
use Rattle.calls.proofs.Theorems.{more_leaves}
use Rattle.results.specs.Results.{tick_after, ticks_after, finishes_in}
use Rattle.results.proofs.Ticks.{Open, stays_open, finish_at, call_ticked}
use Rattle.listing.specs.Listing.{events_of}

-- calls may follow
abbrev pub GoesOn : Halt → Type 0
GoesOn is_full = Unit {0}
GoesOn wants_more = Unit {0}
GoesOn finishes = ⊥
GoesOn (is_refused k vs) = ⊥

-- the finishes of a run don't ask which of two it is, and where calls may follow it is open
pub record Follows (k j : ℤ) (run : Run) : Type 0 where
  pub same : finishes_in k (events_of run.seen) ≡ finishes_in j (events_of run.seen)
  pub left : GoesOn run.halt → Open (ticks_after k (events_of run.seen)) run.reader.scalars

module _ (c : Call) (k j : ℤ) (r : Reader) (o : Open k r.scalars) (p : Open j r.scalars) where
  abbrev t : Step
  t = call r c

  an_event_law : (e : Event) (n : ℕ) → t.said ≡ gives e n → (rest : Run) → Follows (tick_after k e) (tick_after j e) rest
      → Follows k j (before (seen_by (is_pending r.scalars.pending) c.window t e n) rest)
  unfolding finishes_in ticks_after
  an_event_law e n h rest f =
      let u = call_ticked r c.window c.last e n h in
      record { same = λ i. (finish_at k r.scalars t.scalars e u o ∙ sym (finish_at j r.scalars t.scalars e u p)) i ++ f.same i; left = f.left }

  by_said : (a : Said Event) → t.said ≡ a → (next : Event → ℕ → Run) → ((e : Event) (n : ℕ) → t.said ≡ gives e n → Follows k j (next e n))
      → Follows k j (on_said a next (reader_after t))
  unfolding finishes_in ticks_after
  by_said (gives e n) h next f = f e n h
  by_said more h next f =
      record { same = refl; left = λ _. subst (λ (x : Reader). Open k x.scalars) (sym (more_leaves r c.window c.last h).1) o }
  by_said (finish n) h next f = record { same = refl; left = λ z. absurd z }
  by_said (refuses i vs) h next f = record { same = refl; left = λ z. absurd z }

pub run_follows : (see : List ℕ → Call) (n : ℕ) (k j : ℤ) (r : Reader) (bytes : List ℕ) → Open k r.scalars → Open j r.scalars
    → Follows k j (along see n r bytes)
unfolding along finishes_in ticks_after
run_follows see zero k j r bytes o p = record { same = refl; left = λ _. o }
run_follows see (suc n) k j r bytes o p =
    let t = call r (see bytes) in
    by_said (see bytes) k j r o p t.said refl _
    (λ e m h.
    let u = call_ticked r (see bytes).window (see bytes).last e m h in
    an_event_law (see bytes) k j r o p e m h (along see n (reader_after t) (drop m bytes))
    (run_follows see n (tick_after k e) (tick_after j e) (reader_after t) (drop m bytes) (stays_open k r.scalars t.scalars e u o) (stays_open j r.scalars t.scalars e u p)))
