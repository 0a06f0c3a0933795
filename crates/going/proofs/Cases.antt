-- A rewind under way by what the code tests. Assumes nothing.
use Rattle.std.specs.Prelude.{Option, Result, Ok, Err}
use Prim.Native.Nat.{ℕ, ◌+◌, ◌-◌, ◌≤◌, ◌<◌, min}
use mathlib.Core.Path.{◌≡◌, refl, sym, ap, ◌∙◌}
use mathlib.Core.Bool.{Bool, true, false, false≢true, cond, ◌&&◌}
use native.Mathlib.Omega.{arith}
use lib.Dec.{eqb, ltb, leb}
use lib.IntN.{ℤ, pos}
use borrow.Author.Tests.{ltb-true, ltb-false, leb-true, lt-ltb, le-ltb}
use Rattle.refusal.specs.declared.Refusal.{Refusal}
use Rattle.refusal.specs.declared.Refusal.TheVariants.{BadState, NotLast, TickGone}
use Rattle.num.proofs.Cases.{by_bool}
use Rattle.state.specs.State.{ten_of}
use Rattle.state.proofs.Every.{left_of_law, right_of, by_cond}
use Rattle.state.proofs.Numbers.{picks_second}
use Rattle.teams.specs.declared.TeamReader.{TeamReader}
use Rattle.back.specs.TeamBoard.{team_board_of, good_team_board}
use Rattle.back.specs.declared.TeamBoard.{TeamBoard}
use Rattle.reel.specs.Reel.{good_counts, counts_of, undo_in, rows_of}
use Rattle.reel.specs.declared.Counts.{Counts}
use Rattle.reel.specs.declared.Reel.{Reel}
use Rattle.rewinding.specs.Rewinding.{is_start, sought_in, blank_board}
use Rattle.rewinding.specs.Walk.{Walked, walk, rows_from}
use Rattle.going.specs.Going.{
  progress_of,
  rewind_of,
  no_rewind,
  start_of,
  start_rewind,
  start_behind,
  has_start,
  refused_go,
  go_on,
}
use Rattle.going.specs.Lent.{StartIs}
use Rattle.going.specs.steps.Places.{places_before, lent_of, gone_from}
use Rattle.going.specs.declared.StartAnswer.TheVariants as answers
use Rattle.going.specs.declared.LentStart.{LentStart}
use Rattle.going.specs.declared.Progress.{Progress}
use Rattle.going.specs.declared.Rewind.{Rewind}
use Rattle.going.specs.declared.GoAnswer.{GoAnswer}
use Rattle.going.specs.declared.GoAnswer.TheVariants as going
use Rattle.going.proofs.Places.{places_before_law, start_behind_law, start_beyond}
use Rattle.going.proofs.Walks.{walk_go, walk_within}

-- ---- starting, by what the search answers

module _ (r : TeamReader) (l : Reel) (t : ℤ) where
  starts : (x : Result ℕ Refusal) → x ≡ sought_in r l t → start_of (team_board_of r) l t x ≡ start_rewind r l t
  unfolding start_rewind
  starts x e = ap (start_of (team_board_of r) l t) e

  module _ (n : ℕ) (found : Ok n ≡ sought_in r l t) (b : TeamBoard) (copy : b ≡ team_board_of r) where
    pub started : record { answer = answers.Started; rewind = rewind_of b l (progress_of t n false) } ≡ start_rewind r l t
    started = rw copy (starts (Ok n) found)

    pub started_is : (a : LentStart) → a ≡ record { answer = answers.Started; board = b; progress = progress_of t n false } → (own : Reel)
        → StartIs (start_rewind r l t) l own a l
    started_is a e own = rw (← started, e) (record { answer = refl; board = refl; progress = refl; own = refl })

  module _ (why : Refusal) (sought : Err why ≡ sought_in r l t) where
    pub refused : record { answer = answers.Refused why; rewind = no_rewind } ≡ start_rewind r l t
    refused = starts (Err why) sought

    pub refused_is : (a : LentStart) → a ≡ record { answer = answers.Refused why; board = blank_board; progress = progress_of (pos 0) 0 false }
        → (own : Reel) → StartIs (start_rewind r l t) l own a own
    refused_is a e own = rw (← refused, e) (record { answer = refl; board = refl; progress = refl; own = refl })

-- ---- the place of the row behind n others

module _ (n p : ℕ) (hp : p < 512) (hn : n < 512) where
  pub place_below : n < p → p - n - 1 ≡ places_before (n + 1) p
  place_below h = rw (places_before_law n p hp hn, lt-ltb n p h)

  pub place_round : p ≤ n → p + 511 - n ≡ places_before (n + 1) p
  place_round h = rw (places_before_law n p hp hn, le-ltb n p h)

  place_room : places_before (n + 1) p < 512
  place_room = rw (places_before_law n p hp hn) (by_cond (λ i. i < 512) (ltb n p) (λ b. omega arith) (λ b. omega (arith, ltb-false n p b)))

-- ---- whether the TickStart stands in its place

module _ (t : ℤ) (l : Reel) (n : ℕ) where
  pub none_there : l.counts.count ≤ n → false ≡ start_behind t n (rows_of l)
  none_there h = sym (start_beyond t l n h)

  pub there : l.counts.next < 512 → l.counts.count ≤ 512 → n < l.counts.count
      → (p : ℕ) → p ≡ places_before (n + 1) l.counts.next
      → (r : Bool) → r ≡ (ltb p 512 && is_start t (undo_in (ten_of l.rows p))) → r ≡ start_behind t n (rows_of l)
  there room full h p e r q =
      let below : p < 512 = rw e (place_room n l.counts.next room (omega arith)) in
      q ∙ rw (lt-ltb p 512 below, e) (sym (start_behind_law t l n h))

-- ---- going on: g is the flag of the test of the copy and of the own reel, s that of the TickStart

module _ (w : Rewind) (n : ℕ) (g : Bool) (good : g ≡ (good_team_board w.board && good_counts w.reel.counts)) where
  pub bad : g ≡ false → refused_go BadState w ≡ go_on w n
  unfolding go_on
  bad q = rw (← good, q)

  -- the counts of a good reel
  pub in_room : g ≡ true → (w.reel.counts.next < 512) × (w.reel.counts.count ≤ 512)
  in_room q =
      let p = w.reel.counts.next in
      let c = w.reel.counts.count in
      let e = right_of (good_team_board w.board) (good_counts w.reel.counts) (sym good ∙ q) in
      (ltb-true p 512 (left_of_law (ltb p 512) (leb c 512) e), leb-true c 512 (right_of (ltb p 512) (leb c 512) e))

  module _ (q : g ≡ true) (s : Bool) (has : s ≡ has_start w) where
    pub gone : s ≡ false → refused_go TickGone w ≡ go_on w n
    unfolding go_on
    gone p = rw (← good, q, ← has, p)

    module _ (p : s ≡ true) where
      pub misfitted : w.progress.misfit ≡ true → refused_go NotLast w ≡ go_on w n
      unfolding go_on
      misfitted e = rw (← good, q, ← has, p, e)

      newer_below : w.progress.newer < w.reel.counts.count
      newer_below =
          let k = w.progress.newer in
          let c = w.reel.counts.count in
          by_bool (ltb k c) (ltb-true k c)
          (λ f. absurd (false≢true (sym (start_beyond w.progress.tick w.reel k (ltb-false k c f)) ∙ sym has ∙ p)))

      -- x is what stepping over m rows leaves
      module _ (m : ℕ) (most : m ≡ min n w.progress.newer) (x : Walked)
          (walked : x ≡ walk w.reel (rows_from w.reel.counts.next m) w.reel.counts.next 0 w.board) where
        over_is : x ≡ walk w.reel (min n w.progress.newer) w.reel.counts.next 0 w.board
        over_is = rw (← most) (rw (lt-ltb w.reel.counts.next 512 (in_room q).0) at walked)

        pub went_over : w.progress.misfit ≡ false → gone_from w x ≡ go_on w n
        unfolding go_on
        went_over e =
            rw (← good, q, ← has, p)
            (ap (gone_from w) over_is ∙ sym (walk_go n w) ∙ picks_second w.progress.misfit _ _ e)

        pub over_within : (x.over ≤ w.reel.counts.count) × (x.over ≤ w.progress.newer)
        over_within =
            let h = ap (λ (y : Walked). y.over) over_is in
            let k = walk_within w.reel (min n w.progress.newer) w.reel.counts.next 0 w.board in
            (omega (arith, newer_below), omega arith)

-- ---- what is left after k rows were stepped over: f is the flag that the next one fitted

module _ (f : Bool) (t : Option ℤ) (p k : ℕ) (counts : Counts) (w : Progress) where
  pub left_misfit : f ≡ false
      → record { answer = going.Refused NotLast; tick = t; counts = counts_of p (counts.count - k); progress = progress_of w.tick (w.newer - k) true }
      ≡ lent_of f t p k counts w
  left_misfit e = rw (e)

  pub left_over : f ≡ true → (a : GoAnswer) → a ≡ cond (eqb (w.newer - k) 0) going.Ended going.Going
      → record { answer = a; tick = t; counts = counts_of p (counts.count - k); progress = progress_of w.tick (w.newer - k) w.misfit }
      ≡ lent_of f t p k counts w
  left_over e a q = rw (e, q)
