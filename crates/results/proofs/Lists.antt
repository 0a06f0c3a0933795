-- A list that takes one finish after the other: its rows, its count, and finishes in two parts. Assumes nothing.
use Prim.Native.Nat.{ℕ, zero, suc, ◌+◌, ◌≤◌, ◌<◌}
use mathlib.Core.Path.{◌≡◌, refl, sym, ap, ◌∙◌}
use mathlib.Core.Bool.{false, cond}
use mathlib.Core.List.{List, [], ◌∷◌, ◌++◌, append_assoc}
use native.Mathlib.Omega.{arith}
use lib.Dec.{ltb}
use lib.ListN.{length, length-set, length-replicate, get_or-replicate}
use lib.Seq.{get_or-set_same, get_or-set_other}
use lib.IntN.{ℤ, pos, negsuc}
use borrow.Author.Tests.{lt-ltb, eqb-false}
use Rattle.num.proofs.Cases.{by_bool}
use Rattle.state.specs.State.{same_int}
use Rattle.state.proofs.Numbers.{picks_first, picks_second}
use Rattle.results.specs.Results.{
  Finish,
  finish,
  finish_of,
  tick_after,
  ticks_after,
  finishes_in,
  is_lower,
  lower,
  best_after,
  bests_below,
  is_listed,
  others_in,
  no_results,
  row_of,
  rows_below,
  with_row,
  one_more,
  keep_at,
  keep,
}
use Rattle.results.specs.Laws.{RowsAreBests, AllRowsAreBests, CountIsOthers, CountRises, KeepsOn, FinishesGoOn}
use Rattle.results.specs.declared.Results.{Results}
use Rattle.results.proofs.Order.{same_true}

-- ---- in two parts

pub keeps_on : KeepsOn
unfolding keep
keeps_on l [] gs = refl
keeps_on l (f ∷ fs) gs = keeps_on (keep_at l f.client f) fs gs

pub finishes_go_on : FinishesGoOn
unfolding finishes_in ticks_after
finishes_go_on k [] ds = refl
finishes_go_on k (e ∷ es) ds =
    ap (λ (x : List Finish). finish_of k e ++ x) (finishes_go_on (tick_after k e) es ds)
    ∙ sym (append_assoc (finish_of k e) (finishes_in (tick_after k e) es) (finishes_in (ticks_after (tick_after k e) es) ds))

-- ---- the count

rises_at : (l : Results) (z : ℤ) (f : Finish) → (keep_at l z f).others ≡ l.others + cond (is_listed z) 0 1
rises_at l (negsuc c) f = refl
rises_at l (pos c) f =
    by_bool (ltb c 128)
    (λ t. rw t (by_bool (is_lower (row_of l c) f) (λ q. rw q (omega arith)) (λ q. rw q (omega arith))))
    (λ t. rw t)

pub count_rises : CountRises
unfolding keep others_in
count_rises l [] = omega arith
count_rises l (f ∷ fs) =
    let a = count_rises (keep_at l f.client f) fs in
    let b = rises_at l f.client f in
    omega arith

pub count_is_others : CountIsOthers
unfolding no_results
count_is_others fs = let h = count_rises no_results fs in omega arith

-- ---- the rows

-- arrays of 128
pub record Sizes (l : Results) : Type 0 where
  pub marks : length l.marks ≡ 128
  pub times : length l.times ≡ 128
  pub ticks : length l.ticks ≡ 128

sized_row : (l : Results) (c : ℕ) (f : Finish) → Sizes l → Sizes (with_row l c f)
sized_row l c f s =
    record {
      marks = length-set l.marks c 1 ∙ s.marks;
      times = length-set l.times c f.time ∙ s.times;
      ticks = length-set l.ticks c f.tick ∙ s.ticks;
    }

sized_more : (l : Results) → Sizes l → Sizes (one_more l)
sized_more l s = record { marks = s.marks; times = s.times; ticks = s.ticks }

sized_at : (l : Results) (z : ℤ) (f : Finish) → Sizes l → Sizes (keep_at l z f)
sized_at l (negsuc c) f s = sized_more l s
sized_at l (pos c) f s =
    by_bool (ltb c 128)
    (λ t. rw t (by_bool (is_lower (row_of l c) f) (λ q. rw q (sized_row l c f s)) (λ q. rw q s)))
    (λ t. rw t (sized_more l s))

module _ (l : Results) (f : Finish) (c : ℕ) (h : c < 128) (s : Sizes l) where
  -- the row of a client that has it anew
  set_row : f.client ≡ pos c → row_of (with_row l c f) c ≡ f ∷ []
  set_row e =
      rw (get_or-set_same l.marks c 1 0 (rw s.marks h), get_or-set_same l.times c f.time (pos 0) (rw s.times h), get_or-set_same l.ticks c f.tick (pos 0) (rw s.ticks h))
      (ap (λ (z : ℤ). finish z f.time f.tick ∷ []) (sym e))

  other_row : (d : ℕ) → (c ≡ d → ⊥) → row_of (with_row l d f) c ≡ row_of l c
  other_row d n =
      rw (get_or-set_other l.marks d c 1 0 n, get_or-set_other l.times d c f.time (pos 0) n, get_or-set_other l.ticks d c f.tick (pos 0) n)

  -- a finish of the client
  own : f.client ≡ pos c → row_of (keep_at l (pos c) f) c ≡ lower (row_of l c) f
  own e =
      rw (lt-ltb c 128 h)
      (by_bool (is_lower (row_of l c) f) (λ q. rw q (set_row e)) (λ q. rw q))

  -- of another
  another : (z : ℤ) → same_int z (pos c) ≡ false → row_of (keep_at l z f) c ≡ row_of l c
  another (negsuc d) e = refl
  another (pos d) e =
      by_bool (ltb d 128)
      (λ t. rw t (by_bool (is_lower (row_of l d) f) (λ q. rw q (other_row d (λ p. eqb-false d c e (sym p)))) (λ q. rw q)))
      (λ t. rw t)

  next_row : row_of (keep_at l f.client f) c ≡ cond (same_int f.client (pos c)) (lower (row_of l c) f) (row_of l c)
  next_row =
      by_bool (same_int f.client (pos c))
      (λ t. let e = same_true f.client (pos c) t in ap (λ (z : ℤ). row_of (keep_at l z f) c) e ∙ own e ∙ picks_first (same_int f.client (pos c)) _ _ t)
      (λ t. another f.client t ∙ picks_second (same_int f.client (pos c)) _ _ t)

pub rows_after : (l : Results) (fs : List Finish) (c : ℕ) → c < 128 → Sizes l → row_of (keep l fs) c ≡ best_after (row_of l c) c fs
unfolding keep best_after
rows_after l [] c h s = refl
rows_after l (f ∷ fs) c h s =
    rows_after (keep_at l f.client f) fs c h (sized_at l f.client f s)
    ∙ ap (λ (x : List Finish). best_after x c fs) (next_row l f c h s)

none_sized : Sizes no_results
unfolding no_results
none_sized = record { marks = length-replicate {A = ℕ} 128 0; times = length-replicate 128 (pos 0); ticks = length-replicate 128 (pos 0) }

no_row : (c : ℕ) → c < 128 → row_of no_results c ≡ []
unfolding no_results
no_row c h = rw (get_or-replicate {A = ℕ} 128 c 0 0 h)

pub rows_are_bests : RowsAreBests
rows_are_bests fs c h =
    rows_after no_results fs c h none_sized ∙ ap (λ (x : List Finish). best_after x c fs) (no_row c h)

below : (fs : List Finish) (n : ℕ) → n ≤ 128 → rows_below n (keep no_results fs) ≡ bests_below n fs
unfolding rows_below bests_below
below fs zero h = refl
below fs (suc n) h = rw (below fs n (omega arith), rows_are_bests fs n h)

pub all_rows_are_bests : AllRowsAreBests
all_rows_are_bests fs = below fs 128 (omega arith)
