-- A list that takes what is told of a body, one event after the other. Assumes nothing.
use Prim.Native.Nat.{◌≤◌}
use mathlib.Core.Path.{◌≡◌, refl, sym, ap, ◌∙◌}
use mathlib.Core.Bool.{true}
use mathlib.Core.List.{List, [], ◌∷◌, ◌++◌}
use native.Mathlib.Omega.{arith}
use borrow.Author.Tests.{leb-true, le-leb}
use lib.IntN.{ℤ}
use Rattle.calls.specs.Calls.{Seen}
use Rattle.windows.specs.Telling.{Heard, an_event, the_end, events_told}
use Rattle.results.specs.Results.{finish_of, tick_after, ticks_after, finishes_in, keep, fits}
use Rattle.results.specs.declared.Results.{Results}
use Rattle.results.proofs.Theorems.{count_rises, keeps_on}
use Rattle.listing.specs.Listing.{events_of}
use Rattle.ladder_turns.specs.Ladder.{goes_on, ends_as}
use Rattle.ladder_turns.specs.Rounds.{Climbed}

-- ---- from an open tick and a list on

unfoldable pub climb : ℤ → Results → List Heard → Climbed
climb k l [] = record { list = l; next = goes_on }
climb k l (an_event e ∷ ts) = climb (tick_after k e) (keep l (finish_of k e)) ts
climb k l (the_end x ∷ ts) = record { list = l; next = ends_as x }

pub climb_rises : (k : ℤ) (l : Results) (ts : List Heard) → l.others ≤ (climb k l ts).list.others
unfolding climb
climb_rises k l [] = omega arith
climb_rises k l (an_event e ∷ ts) =
    omega (arith, count_rises l (finish_of k e), climb_rises (tick_after k e) (keep l (finish_of k e)) ts)
climb_rises k l (the_end x ∷ ts) = omega arith

-- so if the count fits at the end, it did before
pub fits_before : (k : ℤ) (l : Results) (ts : List Heard) → fits (climb k l ts).list ≡ true → fits l ≡ true
fits_before k l ts h =
    let a = leb-true (climb k l ts).list.others 18446744073709551615 h in
    le-leb l.others 18446744073709551615 (omega (arith, climb_rises k l ts))

-- the events of a run, and what is told behind them
pub climb_run : (k : ℤ) (l : Results) (xs : List Seen) (ts : List Heard)
    → climb k l (events_told xs ++ ts) ≡ climb (ticks_after k (events_of xs)) (keep l (finishes_in k (events_of xs))) ts
unfolding climb keep finishes_in ticks_after
climb_run k l [] ts = refl
climb_run k l (x ∷ xs) ts =
    let e = x.event in
    climb_run (tick_after k e) (keep l (finish_of k e)) xs ts
    ∙ ap (λ (m : Results). climb (ticks_after (tick_after k e) (events_of xs)) m ts)
    (sym (keeps_on l (finish_of k e) (finishes_in (tick_after k e) (events_of xs))))
