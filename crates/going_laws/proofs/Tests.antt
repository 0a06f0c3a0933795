-- What a call tests of a rewind holds again of what the call leaves. Assumes nothing.
use Prim.Native.Nat.{ℕ, zero, suc, ◌-◌}
use mathlib.Core.Path.{◌≡◌, refl, ap}
use mathlib.Core.Bool.{Bool, true, false, false≢true, ◌&&◌}
use mathlib.Core.List.{◌∷◌}
use native.Mathlib.Omega.{arith}
use lib.Dec.{ltb, leb, eqb-suc-zero}
use lib.IntN.{ℤ}
use borrow.Author.Tests.{ltb-true, leb-true, lt-ltb, le-leb}
use Rattle.refusal.specs.declared.Refusal.{Refusal}
use Rattle.refusal.specs.declared.Refusal.TheVariants.{BadState, NotLast, TickGone}
use Rattle.fields.proofs.Answers.{and_both, and_split}
use Rattle.state.proofs.Every.{left_of_law, right_of}
use Rattle.back.specs.TeamBoard.{was, good_team_board}
use Rattle.back.specs.Undo.{undone, former_in}
use Rattle.back.specs.declared.TeamBoard.{TeamBoard}
use Rattle.reel.specs.Reel.{place_before, counts_of, reel_of, good_counts, good_reel, row_at, rows_before, rows_of}
use Rattle.reel.specs.declared.Counts.{Counts}
use Rattle.reel.specs.declared.Reel.{Reel}
use Rattle.rewinding.proofs.Steps.{before_below}
use Rattle.going.specs.Going.{start_behind, has_start, refused_go, newest_of, without_newest, passed, go_over, go_on}
use Rattle.going.specs.declared.Rewind.{Rewind}
use Rattle.going_laws.specs.Laws.{BoardSizes}
use Rattle.going_laws.proofs.Boards.{TeamFine, team_leaves}
use Rattle.going_laws.proofs.Steps.{off_newest}

-- ---- a reel without its newest row

counts_less : (k : Counts) → good_counts k ≡ true → good_counts (counts_of (place_before k.next) (k.count - 1)) ≡ true
counts_less k g =
    let next = ltb-true k.next 512 (left_of_law (ltb k.next 512) (leb k.count 512) g) in
    let count = leb-true k.count 512 (right_of (ltb k.next 512) (leb k.count 512) g) in
    and_both _ _ (lt-ltb (place_before k.next) 512 (before_below k.next next)) (le-leb (k.count - 1) 512 (omega arith))

module _ (l : Reel) where
  -- rows stand in their places, whatever the counts
  rows_stay : (k : Counts) (n p : ℕ) → rows_before (reel_of k l.rows l.inputs l.formers) n p ≡ rows_before l n p
  unfolding rows_before row_at
  rows_stay k zero p = refl
  rows_stay k (suc n) p = ap (λ rs. row_at l (place_before p) ∷ rs) (rows_stay k n (place_before p))

  module _ (t : ℤ) (m : ℕ) where
    behind_less : (c p : ℕ) → start_behind t (suc m) (rows_before l c p) ≡ true → start_behind t m (rows_before l (c - 1) (place_before p)) ≡ true
    unfolding start_behind rows_before
    behind_less zero p e = absurd (false≢true e)
    behind_less (suc c) p e =
        let f : suc m - 1 ≡ m = omega arith in
        let g : suc c - 1 ≡ c = omega arith in
        rw g (rw (eqb-suc-zero m, f) at e)

    start_less : start_behind t (suc m) (rows_of l) ≡ true → start_behind t m (rows_of (without_newest l)) ≡ true
    unfolding rows_of
    start_less e =
        rw (rows_stay (counts_of (place_before l.counts.next) (l.counts.count - 1)) (l.counts.count - 1) (place_before l.counts.next))
        (behind_less l.counts.count l.counts.next e)

-- ---- what a call tests before it goes

pub record Goes (w : Rewind) : Type 0 where
  pub board : TeamFine w.board
  pub reel : good_reel w.reel ≡ true
  pub start : has_start w ≡ true

module _ (w : Rewind) (g : Goes w) where
  pub goes_over : (n : ℕ) → w.progress.misfit ≡ false → go_on w n ≡ go_over n w
  unfolding go_on
  goes_over n m = rw (g.board.good, g.reel, g.start, m)

  pub never_again : (n : ℕ) → w.progress.misfit ≡ true → go_on w n ≡ refused_go NotLast w
  unfolding go_on
  never_again n m = rw (g.board.good, g.reel, g.start, m)

  -- the newest event fitted
  pub goes_passed : (m : ℕ) (a : TeamBoard) → w.progress.newer ≡ suc m → off_newest w ≡ was a → Goes (passed w a)
  goes_passed m a e o =
      let f : w.progress.newer - 1 ≡ m = omega arith in
      record {
        board = rw o at (team_leaves (undone (newest_of w.reel).undo) (newest_of w.reel).ten (newest_of w.reel).former (former_in (newest_of w.reel).undo) w.board g.board);
        reel = counts_less w.reel.counts g.reel;
        start = rw f (start_less w.reel w.progress.tick m (rw e at g.start));
      }

-- ---- a call refuses and changes nothing, or goes over so many events

pub data Calls (w : Rewind) : Type 0 where
  refuses : (r : Refusal) → ((n : ℕ) → go_on w n ≡ refused_go r w) → Calls w
  goes : ((n : ℕ) → go_on w n ≡ go_over n w) → (BoardSizes w.board → Goes w) → w.progress.misfit ≡ false → Calls w

module _ (w : Rewind) where
  by_tests : (b s m : Bool) → (good_team_board w.board && good_reel w.reel) ≡ b → has_start w ≡ s → w.progress.misfit ≡ m → Calls w
  unfolding go_on
  by_tests false s m e f g = refuses BadState (λ n. rw e)
  by_tests true false m e f g = refuses TickGone (λ n. rw (e, f))
  by_tests true true true e f g = refuses NotLast (λ n. rw (e, f, g))
  by_tests true true false e f g =
      let good = and_split (good_team_board w.board) (good_reel w.reel) e in
      goes (λ n. rw (e, f, g)) (λ sizes. record { board = record { good = good.0; sizes = sizes }; reel = good.1; start = f }) g

  pub tested : Calls w
  tested = by_tests (good_team_board w.board && good_reel w.reel) (has_start w) w.progress.misfit refl refl refl
