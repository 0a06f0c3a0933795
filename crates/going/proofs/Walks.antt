-- Going on over so many events is a walk over the rewind's own reel. Assumes nothing.
use Prim.Native.Nat.{ℕ, zero, suc, ◌+◌, ◌-◌, ◌≤◌, min}
use mathlib.Core.Path.{◌≡◌, refl, ◌∙◌}
use mathlib.Core.Bool.{true, cond, false≢true}
use native.Mathlib.Omega.{arith}
use native.Mathlib.Nat.{zero-min, min-zero, suc-min-suc}
use lib.Dec.{eqb-suc-zero}
use Rattle.refusal.specs.declared.Refusal.TheVariants.{NotLast}
use Rattle.back.specs.TeamBoard.{TeamBack, was, refused}
use Rattle.back.specs.declared.TeamBoard.{TeamBoard}
use Rattle.taking.specs.Taking.{team_taken_from}
use Rattle.reel.specs.Reel.{place_before, counts_of, reel_of, row_at}
use Rattle.reel.specs.declared.Reel.{Reel}
use Rattle.rewinding.specs.Rewinding.{back_row}
use Rattle.rewinding.specs.Walk.{Walked, walk}
use Rattle.going.specs.Going.{progress_of, rewind_of, refused_go, passed, misfitting, go_over}
use Rattle.going.specs.steps.Places.{gone_from}
use Rattle.going.specs.declared.Rewind.{Rewind}

-- ---- a rewind after k rows were stepped over, which left a place and a board

abbrev after : Rewind → ℕ → ℕ → TeamBoard → Rewind
after w k p b =
    rewind_of b (reel_of (counts_of p (w.reel.counts.count - k)) w.reel.rows w.reel.inputs w.reel.formers)
    (progress_of w.progress.tick (w.progress.newer - k) w.progress.misfit)

-- it goes on as the walk does
abbrev On : Rewind → ℕ → ℕ → ℕ → TeamBoard → Type 0
On w n k p b = go_over n (after w k p b) ≡ gone_from w (walk w.reel (min n (w.progress.newer - k)) p k b)

module _ (w : Rewind) (n k p : ℕ) (b : TeamBoard) where
  on_none : w.progress.newer - k ≡ 0 → On w (suc n) k p b
  unfolding go_over walk
  on_none e = rw (e, min-zero (suc n), e)

  module _ (rest : (a : TeamBoard) → On w n (suc k) (place_before p) a) where
    on_by : (x : TeamBack)
        → cond (team_taken_from b x).fits (go_over n (passed (after w k p b) (team_taken_from b x).board)) (refused_go NotLast (misfitting (after w k p b)))
        ≡ gone_from w
        (cond (team_taken_from b x).fits (walk w.reel (min n (w.progress.newer - suc k)) (place_before p) (suc k) (team_taken_from b x).board)
        (record { taken = team_taken_from b x; over = k; place = p }))
    on_by (was a) =
        let e : w.progress.newer - k - 1 ≡ w.progress.newer - suc k = omega arith in
        let f : w.reel.counts.count - k - 1 ≡ w.reel.counts.count - suc k = omega arith in
        rw (e, f) (rest a)
    on_by (refused r) = refl

    on_some : (m : ℕ) → w.progress.newer - k ≡ suc m → On w (suc n) k p b
    unfolding go_over walk row_at
    on_some m e =
        let f : w.progress.newer - suc k ≡ m = omega arith in
        rw (e, suc-min-suc n m, eqb-suc-zero m, ← e, ← f) (on_by (back_row (row_at w.reel (place_before p)) b))

go_by : (w : Rewind) (n k p : ℕ) (b : TeamBoard) → ((a : TeamBoard) → On w n (suc k) (place_before p) a) → (d : ℕ) → w.progress.newer - k ≡ d
    → On w (suc n) k p b
go_by w n k p b rest zero e = on_none w n k p b e
go_by w n k p b rest (suc m) e = on_some w n k p b rest m e

go_on : (w : Rewind) (n k p : ℕ) (b : TeamBoard) → On w n k p b
unfolding go_over walk
go_on w zero k p b = rw (zero-min (w.progress.newer - k))
go_on w (suc n) k p b = go_by w n k p b (go_on w n (suc k) (place_before p)) (w.progress.newer - k) refl

pub walk_go : (n : ℕ) (w : Rewind)
    → go_over n w ≡ gone_from w (walk w.reel (min n w.progress.newer) w.reel.counts.next 0 w.board)
walk_go n w =
    let e : w.progress.newer - 0 ≡ w.progress.newer = omega arith in
    let f : w.reel.counts.count - 0 ≡ w.reel.counts.count = omega arith in
    rw (e, f) at (go_on w n 0 w.reel.counts.next w.board)

-- ---- how many rows are stepped over

abbrev step : Reel → ℕ → ℕ → ℕ → TeamBoard → TeamBack → Walked
step l n p k b x =
    cond (team_taken_from b x).fits (walk l n (place_before p) (suc k) (team_taken_from b x).board) (record { taken = team_taken_from b x; over = k; place = p })

module _ (l : Reel) (n p k : ℕ) (b : TeamBoard) where
  within_by : ((a : TeamBoard) → (walk l n (place_before p) (suc k) a).over ≤ suc k + n) → (x : TeamBack) → (step l n p k b x).over ≤ k + suc n
  within_by rest (was a) = omega (arith, rest a)
  within_by rest (refused r) = omega arith

  all_by : ((a : TeamBoard) → (walk l n (place_before p) (suc k) a).taken.fits ≡ true → (walk l n (place_before p) (suc k) a).over ≡ suc k + n) → (x : TeamBack)
      → (step l n p k b x).taken.fits ≡ true → (step l n p k b x).over ≡ k + suc n
  all_by rest (was a) e = rest a e ∙ (omega arith)
  all_by rest (refused r) e = absurd (false≢true e)

-- no more than were asked for
pub walk_within : (l : Reel) (n p k : ℕ) (b : TeamBoard) → (walk l n p k b).over ≤ k + n
unfolding walk
walk_within l zero p k b = omega arith
walk_within l (suc n) p k b = within_by l n p k b (walk_within l n (place_before p) (suc k)) (back_row (row_at l (place_before p)) b)

-- as many, if every row fitted
pub walk_all : (l : Reel) (n p k : ℕ) (b : TeamBoard) → (walk l n p k b).taken.fits ≡ true → (walk l n p k b).over ≡ k + n
unfolding walk
walk_all l zero p k b e = omega arith
walk_all l (suc n) p k b e = all_by l n p k b (walk_all l n (place_before p) (suc k)) (back_row (row_at l (place_before p)) b) e
