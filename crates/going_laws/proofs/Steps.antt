-- A rewind goes on: it has ended, the newest event fits, or it doesn't; and what holds by these steps. Assumes nothing.
use Prim.Native.Nat.{ℕ, zero, suc}
use mathlib.Core.Path.{◌≡◌, refl}
use lib.Dec.{eqb-suc-zero}
use Rattle.refusal.specs.declared.Refusal.{Refusal}
use Rattle.refusal.specs.declared.Refusal.TheVariants.{NotLast}
use Rattle.back.specs.TeamBoard.{TeamBack, was, refused}
use Rattle.back.specs.declared.TeamBoard.{TeamBoard}
use Rattle.rewinding.specs.Rewinding.{back_row}
use Rattle.going.specs.Going.{standing, refused_go, newest_of, passed, misfitting, go_over}
use Rattle.going.specs.declared.Rewind.{Rewind}
use Rattle.going.specs.declared.Go.{Go}

-- the newest event taken off the copy
abbrev pub off_newest : Rewind → TeamBack
off_newest w = back_row (newest_of w.reel) w.board

pub go_ended : (n : ℕ) (w : Rewind) → w.progress.newer ≡ 0 → go_over n w ≡ standing w
unfolding go_over
go_ended zero w e = refl
go_ended (suc n) w e = rw e

module _ (n : ℕ) (w : Rewind) (m : ℕ) (some : w.progress.newer ≡ suc m) where
  pub go_passed : (a : TeamBoard) → off_newest w ≡ was a → go_over (suc n) w ≡ go_over n (passed w a)
  unfolding go_over
  go_passed a e = rw (some, eqb-suc-zero m, e)

  pub go_misfit : (r : Refusal) → off_newest w ≡ refused r → go_over (suc n) w ≡ refused_go NotLast (misfitting w)
  unfolding go_over
  go_misfit r e = rw (some, eqb-suc-zero m, e)

module _
    (P : ℕ → Rewind → Go → Type 0)
    (none : (w : Rewind) → P 0 w (standing w))
    (ended : (n : ℕ) (w : Rewind) → w.progress.newer ≡ 0 → P n w (standing w))
    (passes : (n : ℕ) (w : Rewind) (m : ℕ) (a : TeamBoard) → w.progress.newer ≡ suc m → off_newest w ≡ was a → P n (passed w a) (go_over n (passed w a))
    → P (suc n) w (go_over n (passed w a)))
    (misfits : (n : ℕ) (w : Rewind) (m : ℕ) (r : Refusal) → w.progress.newer ≡ suc m → off_newest w ≡ refused r
    → P (suc n) w (refused_go NotLast (misfitting w)))
  where
    by_back : (n : ℕ) (w : Rewind) (m : ℕ) → w.progress.newer ≡ suc m → ((v : Rewind) → P n v (go_over n v)) → (x : TeamBack) → off_newest w ≡ x
        → P (suc n) w (go_over (suc n) w)
    by_back n w m e rest (was a) o = rw (go_passed n w m e a o) (passes n w m a e o (rest (passed w a)))
    by_back n w m e rest (refused r) o = rw (go_misfit n w m e r o) (misfits n w m r e o)

    by_newer : (n : ℕ) (w : Rewind) → ((v : Rewind) → P n v (go_over n v)) → (d : ℕ) → w.progress.newer ≡ d → P (suc n) w (go_over (suc n) w)
    by_newer n w rest zero e = rw (go_ended (suc n) w e) (ended (suc n) w e)
    by_newer n w rest (suc m) e = by_back n w m e rest (off_newest w) refl

    pub by_steps : (n : ℕ) (w : Rewind) → P n w (go_over n w)
    unfolding go_over
    by_steps zero w = none w
    by_steps (suc n) w = by_newer n w (by_steps n) w.progress.newer refl
