-- Where a turn wants more bytes. Assumes nothing.
use Prim.Native.Nat.{ℕ, zero, suc}
use mathlib.Core.Path.{◌≡◌, refl, sym, ◌∙◌, ap}
use mathlib.Core.Bool.{Bool, true, false, cond, false≢true}
use mathlib.Core.List.{List}
use native.Mathlib.Omega.{arith}
use borrow.Author.Tests.{ltb-true}
use lib.ListN.{length, take, drop}
use lib.Seq.{take_all, drop-drop}
use Rattle.item.specs.Said.{Said, gives, more, finish, refuses}
use Rattle.state.specs.Reading.{Event, read_call, reader_after}
use Rattle.state.specs.declared.Reader.{Reader}
use Rattle.calls.specs.Calls.{is_pending, seen_by}
use Rattle.calls.specs.Along.{along, Halt, is_full, wants_more, finishes, is_refused, Run, before, on_said, calls}
use Rattle.windows.specs.Windows.{full, window_of, is_short, is_last_window, turn_run, wants}
use Rattle.windows.specs.Turns.{at_hand, has_ended, WantsAtMore}
use Rattle.calls.proofs.Singles.{more_leaves}

abbrev AtMore : List ℕ → Bool → Run → Type 0
AtMore w last run = run.halt ≡ wants_more → (read_call run.reader (drop run.used w) last).said ≡ more

stops_at_more : (r : Reader) (w : List ℕ) (last : Bool) (a : Said Event) → (read_call r w last).said ≡ a → (next : Event → ℕ → Run)
    → ((e : Event) (n : ℕ) → (read_call r w last).said ≡ gives e n → AtMore w last (next e n))
    → AtMore w last (on_said a next (reader_after (read_call r w last)))
stops_at_more r w last (gives e n) s next f h = f e n s h
stops_at_more r w last more s next f h = rw (more_leaves r w last s).1 s
stops_at_more r w last (finish n) s next f h = let z : ◌≡◌ {A = ℕ} 0 1 = cc in absurd (omega arith)
stops_at_more r w last (refuses k vs) s next f h = let z : ◌≡◌ {A = ℕ} 0 1 = cc in absurd (omega arith)

at_more : (n : ℕ) (r : Reader) (w : List ℕ) (last : Bool) → AtMore w last (calls n r w last)
unfolding along
at_more zero r w last h = let z : ◌≡◌ {A = ℕ} 0 1 = cc in absurd (omega arith)
at_more (suc n) r w last h =
    let t = read_call r w last in
    stops_at_more r w last t.said refl (λ e m. before (seen_by (is_pending r.scalars.pending) w t e m) (calls n (reader_after t) (drop m w) last))
    (λ e m s g.
    let run = calls n (reader_after t) (drop m w) last in
    rw (← drop-drop run.used m w) (at_more n (reader_after t) (drop m w) last g))
    h

pub wants_is : (s : Bool) (h : Halt) → wants s h ≡ true → (s ≡ true) × (h ≡ wants_more)
wants_is s is_full e = absurd (false≢true e)
wants_is s wants_more e = (e, refl)
wants_is s finishes e = absurd (false≢true e)
wants_is s (is_refused k vs) e = absurd (false≢true e)

not_ended : (ended s : Bool) → s ≡ true → cond ended s false ≡ false → ended ≡ false
not_ended true s e f = absurd (false≢true (sym f ∙ e))
not_ended false s e f = refl

pub wants_more_law : (n : ℕ) (r : Reader) (bytes : List ℕ) (ended : Bool) → let run = turn_run n r bytes ended in
    wants (is_short bytes) run.halt ≡ true → (ended ≡ false) × ((read_call run.reader (drop run.used bytes) false).said ≡ more)
wants_more_law n r bytes ended e =
    let run = turn_run n r bytes ended in
    let w = wants_is (is_short bytes) run.halt e in
    let l = ltb-true (length bytes) full w.0 in
    let m = at_more n r (window_of bytes) (is_last_window ended bytes) w.1 in
    let f = (more_leaves run.reader (drop run.used (window_of bytes)) (is_last_window ended bytes) m).0 in
    let e : take full bytes ≡ bytes = take_all full bytes (omega arith) in (
      not_ended ended (is_short bytes) w.0 f,
      ap (λ (l : List ℕ). (read_call run.reader (drop run.used l) false).said) (sym e)
          ∙ ap (λ (b : Bool). (read_call run.reader (drop run.used (window_of bytes)) b).said) (sym f) ∙ m,
    )

pub wants_at_more : WantsAtMore
wants_at_more t r body = wants_more_law (suc t.room) r (at_hand t.arrived body) (has_ended t.arrived)
