-- The laws of a rewind under way. Assumes nothing.
use Prim.Native.Nat.{ℕ, suc, ◌+◌, ◌≤◌}
use mathlib.Core.Path.{◌≡◌, refl, sym, ◌∙◌}
use mathlib.Core.Bool.{false, false≢true}
use mathlib.Core.List.{[], ◌∷◌}
use native.Mathlib.Omega.{arith}
use lib.Dec.{eqb}
use borrow.Author.Tests.{eqb-true}
use Rattle.num.proofs.Cases.{by_bool}
use Rattle.going.specs.Going.{standing, misfitting, go_over, go_on}
use Rattle.going_laws.specs.Laws.{BoardSizes, go_each, total, SplitsAdd, is_going, OverStays, EnoughEnds, RewindsInOne}
use Rattle.going.specs.declared.Rewind.{Rewind}
use Rattle.going.specs.declared.Go.{Go}
use Rattle.going_laws.proofs.Steps.{go_ended, go_passed, go_misfit, by_steps}
use Rattle.going_laws.proofs.Tests.{Goes, goes_over, never_again, goes_passed, Calls, refuses, goes, tested}
use Rattle.going_laws.proofs.InOne.{in_one}

-- ---- calls one behind the other

-- a call over n events leaves a rewind, of which a call over k more answers and leaves what one over both does
abbrev Twice : ℕ → Rewind → Go → Type 0
Twice n w g = Goes w → w.progress.misfit ≡ false → (k : ℕ) → go_on g.rewind k ≡ go_over (n + k) w

twice : (n : ℕ) (w : Rewind) → Twice n w (go_over n w)
twice =
    by_steps Twice
    (λ w g m k. let e : 0 + k ≡ k = omega arith in rw e (goes_over w g k m))
    (λ n w e g m k. goes_over w g k m ∙ go_ended k w e ∙ sym (go_ended (n + k) w e))
    (λ n w m a e o rest g mis k.
    let f : suc n + k ≡ suc (n + k) = omega arith in
    rw f (rest (goes_passed w g m a e o) mis k ∙ sym (go_passed (n + k) w m e a o)))
    (λ n w m r e o g mis k.
    let f : suc n + k ≡ suc (n + k) = omega arith in
    rw f (never_again (misfitting w) (record { board = g.board; reel = g.reel; start = g.start }) k refl ∙ sym (go_misfit (n + k) w m e r o)))

abbrev Sized : ℕ → Rewind → Go → Type 0
Sized n w g = Goes w → BoardSizes g.rewind.board

sized : (n : ℕ) (w : Rewind) → Sized n w (go_over n w)
sized =
    by_steps Sized (λ w g. g.board.sizes) (λ n w e g. g.board.sizes) (λ n w m a e o rest g. rest (goes_passed w g m a e o))
    (λ n w m r e o g. g.board.sizes)

module _ (w : Rewind) (sizes : BoardSizes w.board) (n : ℕ) where
  both : (k : ℕ) → Calls w → go_on (go_on w n).rewind k ≡ go_on w (n + k)
  both k (refuses r same) = rw (same n) (same k ∙ sym (same (n + k)))
  both k (goes over good m) = rw (over n) (twice n w (good sizes) m k ∙ sym (over (n + k)))

  left_sizes : Calls w → BoardSizes (go_on w n).rewind.board
  left_sizes (refuses r same) = rw (same n) sizes
  left_sizes (goes over good m) = rw (over n) (sized n w (good sizes))

pub splits_add : SplitsAdd
unfolding go_each total
splits_add w sizes n [] = let e : n + 0 ≡ n = omega arith in rw e
splits_add w sizes n (m ∷ ms) =
    splits_add (go_on w n).rewind (left_sizes w sizes n (tested w)) m ms ∙ both w sizes n (m + total ms) (tested w)

-- ---- the end

-- it has no further to go
ended : (w : Rewind) → is_going (standing w).answer ≡ false → w.progress.newer ≡ 0
ended w e = by_bool (eqb w.progress.newer 0) (eqb-true w.progress.newer 0) (λ f. absurd (false≢true (sym (rw f at e))))

abbrev Stays : ℕ → Rewind → Go → Type 0
Stays n w g = is_going g.answer ≡ false → (k : ℕ) → go_over (n + k) w ≡ g

stays : (n : ℕ) (w : Rewind) → Stays n w (go_over n w)
stays =
    by_steps Stays
    (λ w e k. go_ended (0 + k) w (ended w e))
    (λ n w e i k. go_ended (n + k) w e)
    (λ n w m a e o rest i k. let f : suc n + k ≡ suc (n + k) = omega arith in rw f (go_passed (n + k) w m e a o ∙ rest i k))
    (λ n w m r e o i k. let f : suc n + k ≡ suc (n + k) = omega arith in rw f (go_misfit (n + k) w m e r o))

more_same : (w : Rewind) (n m : ℕ) → is_going (go_on w n).answer ≡ false → Calls w → go_on w (n + m) ≡ go_on w n
more_same w n m e (refuses r same) = same (n + m) ∙ sym (same n)
more_same w n m e (goes over good mis) = over (n + m) ∙ stays n w (rw (over n) at e) m ∙ sym (over n)

pub over_stays : OverStays
over_stays w sizes n m e = both w sizes n m (tested w) ∙ more_same w n m e (tested w)

abbrev Ends : ℕ → Rewind → Go → Type 0
Ends n w g = w.progress.newer ≤ n → is_going g.answer ≡ false

ends : (n : ℕ) (w : Rewind) → Ends n w (go_over n w)
ends =
    by_steps Ends
    (λ w h. let e : w.progress.newer ≡ 0 = omega arith in rw e)
    (λ n w e h. rw e)
    (λ n w m a e o rest h. rest (omega arith))
    (λ n w m r e o h. refl)

ends_by : (w : Rewind) (n : ℕ) → w.progress.newer ≤ n → Calls w → is_going (go_on w n).answer ≡ false
ends_by w n h (refuses r same) = rw (same n)
ends_by w n h (goes over good m) = rw (over n) (ends n w h)

pub enough_ends : EnoughEnds
enough_ends w n h = ends_by w n h (tested w)

-- ---- rewinding in one call

pub rewinds_in_one : RewindsInOne
rewinds_in_one = in_one
