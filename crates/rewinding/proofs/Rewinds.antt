-- Seeking by what the code tests: g is the flag of the test of the reader and the reel, k that of a refused reader; rewinding by what seeking
-- answers. Assumes nothing.
use Rattle.std.specs.Prelude.{Result, Ok, Err}
use Prim.Native.Nat.{ℕ, ◌≤◌, ◌<◌}
use mathlib.Core.Path.{◌≡◌, refl, sym, ap, ◌∙◌}
use mathlib.Core.Bool.{Bool, true, false, false≢true, cond, ◌&&◌}
use native.Mathlib.Omega.{arith}
use lib.Dec.{ltb, leb}
use lib.IntN.{ℤ}
use borrow.Author.Tests.{ltb-true, leb-true}
use Rattle.refusal.specs.declared.Refusal.{Refusal}
use Rattle.refusal.specs.declared.Refusal.TheVariants.{BadState, Closed}
use Rattle.state.specs.State.{good_scalars, good_entries, good_reader}
use Rattle.state.proofs.Every.{left_of_law, right_of}
use Rattle.teams.specs.Teams.{good_teams, good_team_reader}
use Rattle.teams.specs.declared.TeamReader.{TeamReader}
use Rattle.back.specs.TeamBoard.{team_board_of, refused}
use Rattle.reel.specs.Reel.{good_counts, good_reel, rows_before, rows_of}
use Rattle.reel.specs.declared.Counts.{Counts}
use Rattle.reel.specs.declared.Reel.{Reel}
use Rattle.reel.proofs.Ring.{rows_length, rows_taken}
use Rattle.rewinding.specs.Rewinding.{Newer, newer, gone, newer_than, closed_by_refusal, sought_of, sought_in, step_over, copy_of, rewind_to}
use Rattle.rewinding.proofs.Search.{found_below}

-- the counts of a good reel
pub good_room : (r : TeamReader) (l : Reel) → (good_team_reader r && good_reel l) ≡ true → (l.counts.next < 512) × (l.counts.count ≤ 512)
good_room r l good =
    let p = l.counts.next in
    let c = l.counts.count in
    let e = right_of (good_team_reader r) (good_reel l) good in
    (ltb-true p 512 (left_of_law (ltb p 512) (leb c 512) e), leb-true c 512 (right_of (ltb p 512) (leb c 512) e))

-- ---- seeking

-- the flag, from those of its parts
pub tested : (r : TeamReader) (n : Counts) (s e p t q c g : Bool)
    → s ≡ good_scalars r.reader.scalars → e ≡ good_entries r.reader.entries → p ≡ (s && e)
    → t ≡ good_teams r.teams → q ≡ (p && t)
    → c ≡ good_counts n → g ≡ (q && c)
    → g ≡ (good_team_reader r && good_counts n)
unfolding good_team_reader good_reader
tested r n s e p t q c g es ee ep et eq ec eg = rw (eg, eq, ep, es, ee, et, ec)

module _ (r : TeamReader) (l : Reel) (t : ℤ) (g : Bool) (good : g ≡ (good_team_reader r && good_reel l)) where
  pub bad : g ≡ false → Err BadState ≡ sought_in r l t
  unfolding sought_in
  bad n = rw (← good, n)

  pub in_room : g ≡ true → (l.counts.next < 512) × (l.counts.count ≤ 512)
  in_room n = good_room r l (sym good ∙ n)

  module _ (n : g ≡ true) (k : Bool) (closed : k ≡ closed_by_refusal r.reader.scalars.standing) where
    pub refused_reader_law : k ≡ true → Err Closed ≡ sought_in r l t
    unfolding sought_in
    refused_reader_law q = rw (← good, n, ← closed, q)

    -- x is what the search finds
    pub searched : k ≡ false → (x : Newer) → x ≡ newer_than t (rows_of l) → sought_of x ≡ sought_in r l t
    unfolding sought_in
    searched q x e = rw (← good, n, ← closed, q, e)

-- ---- rewinding

abbrev is_newer : Result ℕ Refusal → Bool
is_newer (Ok n) = true
is_newer (Err why) = false

module _ (r : TeamReader) (l : Reel) (t : ℤ) where
  -- it is found only of a good reader and reel
  pub sought_newer : (n : ℕ) → sought_in r l t ≡ Ok n → ((good_team_reader r && good_reel l) ≡ true) × (newer_than t (rows_of l) ≡ newer n)
  unfolding sought_in
  sought_newer n = by (good_team_reader r && good_reel l) (closed_by_refusal r.reader.scalars.standing) (newer_than t (rows_of l))
    where
      by : (g k : Bool) (x : Newer) → cond g (cond k (Err Closed) (sought_of x)) (Err BadState) ≡ Ok n
          → (g ≡ true) × (x ≡ newer n)
      by true true x e = absurd (false≢true (ap is_newer e))
      by true false (newer m) e = let q : m ≡ n = cc in (refl, ap newer q)
      by true false gone e = absurd (false≢true (ap is_newer e))
      by false k x e = absurd (false≢true (ap is_newer e))

  pub not_found : (why : Refusal) → sought_in r l t ≡ Err why → refused why ≡ rewind_to r l t
  unfolding rewind_to
  not_found why e = rw e

  pub found : (n : ℕ) → sought_in r l t ≡ Ok n → copy_of (step_over (rows_before l n l.counts.next) (team_board_of r)) ≡ rewind_to r l t
  unfolding rewind_to
  found n e =
      let h : n ≤ l.counts.count = omega (arith, found_below t (rows_of l) n (sym (sought_newer n e).1), rows_length l) in
      rw (e, rows_taken l n h)
