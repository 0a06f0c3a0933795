-- A rewind under way beside a reader (specs/Beside.antt). Assumes nothing.
use Rattle.std.specs.Prelude.{Result, Ok, Err}
use Prim.Native.Nat.{ℕ, ◌+◌, ◌-◌, ◌≤◌, ◌<◌, min}
use mathlib.Core.Path.{◌≡◌, refl, sym, subst, ap, ◌∙◌}
use mathlib.Core.Bool.{Bool, true, false, cond}
use mathlib.Core.List.{List, map}
use native.Mathlib.Omega.{arith}
use native.Mathlib.Nat.{min-eq_right, min-le_right}
use lib.ListN.{take}
use lib.Dec.{ltb}
use lib.IntN.{ℤ}
use borrow.Author.Tests.{ltb-true, ltb-false, lt-ltb, ne_eqb}
use Rattle.num.proofs.Cases.{by_bool}
use Rattle.refusal.specs.declared.Refusal.{Refusal}
use Rattle.refusal.specs.declared.Refusal.TheVariants.{Closed, TickGone}
use Rattle.kinds.specs.declared.Version.{Version}
use Rattle.teams.specs.declared.TeamReader.{TeamReader}
use Rattle.calls.specs.Calls.{Call}
use Rattle.team_calls.specs.Lists.{team_after, team_events}
use Rattle.back.specs.Board.{board_of}
use Rattle.back.specs.TeamBoard.{team_board_of}
use Rattle.back.specs.declared.TeamBoard.{TeamBoard}
use Rattle.taking.specs.Taking.{TeamTaken}
use Rattle.reel.specs.Reel.{Row, rows_of}
use Rattle.reel.specs.declared.Reel.{Reel}
use Rattle.reel.proofs.Ring.{rows_length, rows_taken}
use Rattle.reeling.specs.Laws.{row_of}
use Rattle.rewinding.specs.Rewinding.{newer, gone, newer_than, step_over, closed_by_refusal, sought_of, sought_in}
use Rattle.rewinding.specs.Walk.{Walked, walk}
use Rattle.rewinding.proofs.Rewinds.{sought_newer}
use Rattle.rewinding.proofs.Search.{found_below}
use Rattle.rewinding.proofs.Walks.{walk_over}
use Rattle.rewind_laws.specs.Laws.{Had, had, never, had_after}
use Rattle.rewind_laws.proofs.Walk.{within, newer_take}
use Rattle.rewind_laws.proofs.Theorems.{Split, none, some, split, start, end, reel, rows, sound, rows_are, goods, back, taken, rewinds_to_tick}
use Rattle.going.specs.Going.{progress_of, rewind_of, start_of, start_rewind, go_over, go_on}
use Rattle.going_laws.specs.Laws.{go_each, total, answer_of}
use Rattle.going.specs.steps.Places.{gone_from}
use Rattle.going.specs.declared.Rewind.{Rewind}
use Rattle.going.specs.declared.StartAnswer.TheVariants as starts
use Rattle.going.specs.declared.GoAnswer.TheVariants as answers
use Rattle.going.specs.declared.Go.{Go}
use Rattle.going.proofs.Walks.{walk_go, walk_all}
use Rattle.going_laws.proofs.Tests.{Calls, refuses, goes, tested}
use Rattle.going_laws.proofs.Theorems.{splits_add, rewinds_in_one}
use Rattle.going_laws.specs.Beside.{BoardBefore, sought_had, Shows, GoesBack}
use Rattle.going_laws.proofs.Cuts.{newer_cut}

-- ---- what is sought

in_room : (b : Bool) (n : ℕ) → sought_of (cond b (newer n) gone) ≡ cond b (Ok n) (Err TickGone)
in_room true n = refl
in_room false n = refl

not_newer : {r : Refusal} {n : ℕ} → Err r ≡ Ok n → ⊥
not_newer e = let z : ◌≡◌ {A = ℕ} 0 1 = cc in absurd (omega arith)

module _ (v : Version) (before since : List Call) (t : ℤ) where
  -- the reader at the cut and at the end, and the reel there
  abbrev from : TeamReader
  from = start v before since

  abbrev to : TeamReader
  to = end v before since

  abbrev kept : Reel
  kept = reel v before since

  abbrev refused_reader : Bool
  refused_reader = closed_by_refusal to.reader.scalars.standing

  -- ---- the start

  had_in : (h : Had) → Split t from since h → sought_of (within 512 (newer_than t (rows v before since))) ≡ sought_had h
  had_in never (none q) = rw q
  had_in (had b n) (some upto behind e q) = rw q (in_room (ltb n 512) n)

  sought : sought_in to kept t ≡ cond refused_reader (Err Closed) (sought_had (had_after t from since))
  unfolding sought_in
  sought =
      rw (goods v before since, rows_are v before since, newer_take t 512 (rows v before since), had_in (had_after t from since) (split t since from))

  begins : start_rewind to kept t ≡ start_of (team_board_of to) kept t (cond refused_reader (Err Closed) (sought_had (had_after t from since)))
  unfolding start_rewind
  begins = ap (start_of (team_board_of to) kept t) sought

  -- where the start finds TickStart: m events are newer
  record Found (m : ℕ) : Type 0 where
    pub unrefused : refused_reader ≡ false
    pub room : m < 512
    pub board : TeamBoard
    pub at_start : had_after t from since ≡ had board m
    pub before_it : BoardBefore m from since board

  found_by : (c : Bool) (h : Had) → refused_reader ≡ c → had_after t from since ≡ h → Split t from since h → (m : ℕ)
      → cond c (Err Closed) (sought_had h) ≡ Ok m → Found m
  found_by true h c a s m e = absurd (not_newer e)
  found_by false never c a s m e = absurd (not_newer e)
  found_by false (had b n) c a (some upto behind cut q) m e =
      by_bool (ltb n 512)
      (λ lt.
      let f : Ok n ≡ Ok m = rw lt at e in
      let same : n ≡ m = cc in
      record {
        unrefused = c;
        room = omega (arith, same, ltb-true n 512 lt);
        board = b;
        at_start = a ∙ ap (had b) same;
        before_it = record { upto = upto; behind = behind; cut = cut; number = same; board = refl };
      })
      (λ ge. absurd (not_newer (rw ge at e)))

  -- ---- what was started

  module _ (m : ℕ) (e : sought_in to kept t ≡ Ok m) where
    found : Found m
    found = found_by refused_reader (had_after t from since) refl refl (split t since from) m (sym sought ∙ e)

    abbrev under : Rewind
    under = rewind_of (team_board_of to) kept (progress_of t m false)

    started : start_rewind to kept t ≡ record { answer = starts.Started; rewind = under }
    unfolding start_rewind
    started = rw e

    -- rewinding ends, so nothing is refused
    ended : (go_on under m).answer ≡ answers.Ended
    ended =
        (rw started at (rewinds_in_one to kept t).answers) refl m (omega arith)
        ∙ ap answer_of ((rewinds_to_tick v before since).rewinds t)
        ∙ rw (found.unrefused, found.at_start, lt-ltb m 512 found.room)

    over : (n : ℕ) → Calls under → go_on under n ≡ go_over n under
    over n (refuses r same) =
        let e : answers.Refused r ≡ answers.Ended = ap (λ (g : Go). g.answer) (sym (same m)) ∙ ended in
        let z : ◌≡◌ {A = ℕ} 0 1 = cc in
        absurd (omega arith)
    over n (goes all good fits) = all n

    -- ---- a call over n events, of which min n m are stepped over, with the board that reading had before these

    module _ (n : ℕ) (b : TeamBoard) (p : BoardBefore (min n m) from since b) where
      abbrev walked : Walked
      walked = walk kept (min n m) kept.counts.next 0 (team_board_of to)

      walks : go_on under n ≡ gone_from under walked
      walks = over n (tested under) ∙ walk_go n under

      held : min n m ≤ kept.counts.count
      held =
          omega
          (arith, min-le_right n m, rows_length kept, found_below t (rows_of kept) m (sym (sought_newer to kept t m e).1))

      fewer : min n m < 512
      fewer = omega (arith, min-le_right n m, found.room)

      newest_rows : take (min n m) (rows_of kept) ≡ map row_of (team_events (team_after from p.upto) p.behind)
      newest_rows =
          let k = p.number in
          (λ i. take (sym k i) (rows_are v before since i))
          ∙ taken v before since p.upto p.behind p.cut found.unrefused (omega (arith, k, fewer))

      left : walked.taken ≡ record { fits = true; board = b }
      left =
          walk_over kept (min n m) kept.counts.next 0 (team_board_of to)
          ∙ ap (λ (rs : List Row). step_over rs (team_board_of to)) (sym (rows_taken kept (min n m) held) ∙ newest_rows)
          ∙ back v before since p.upto p.behind p.cut found.unrefused
          ∙ ap (λ (a : TeamBoard). record { fits = true; board = a }) (sym p.board)

      all_over : walked.over ≡ min n m
      all_over = walk_all kept (min n m) kept.counts.next 0 (team_board_of to) (ap (λ (x : TeamTaken). x.fits) left) ∙ (omega arith)

      copied : (go_on under n).rewind.board ≡ b
      copied = ap (λ (g : Go). g.rewind.board) walks ∙ rw left

      answered : (go_on under n).answer ≡ cond (ltb n m) answers.Going answers.Ended
      answered =
          ap (λ (g : Go). g.answer) walks
          ∙ rw (left, all_over)
          (by_bool (ltb n m)
          (λ lt. rw (lt, ne_eqb (m - min n m) 0 (λ z. omega (arith, ltb-true n m lt))))
          (λ ge. let z : m - min n m ≡ 0 = omega (arith, ltb-false n m ge) in rw (ge, z)))

    shows : (n : ℕ) → Shows t from since under n (go_on under n)
    shows n =
        let p = newer_cut m from since found.board found.before_it (min n m) (min-le_right n m) in
        record {
          answer = answered n p.0 p.1;
          copy = rw (copied n p.0 p.1) p.1;
          end = λ h.
              let k : min n m ≡ m = min-eq_right h in
              found.at_start ∙ ap (λ (b : TeamBoard). had b m) (sym (copied n found.board (rw k found.before_it)));
        }

    -- in calls of any numbers
    shows_split : (n : ℕ) (ms : List ℕ) → Shows t from since under (n + total ms) (go_each under n ms)
    unfolding board_of
    shows_split n ms =
        subst (Shows t from since under (n + total ms)) (sym (splits_add under (record { entries = (sound v before since).reader.sizes; teams = (sound v before since).teams.size }) n ms)) (shows (n + total ms))

  shows_by : (x : Result ℕ Refusal) → sought_in to kept t ≡ x → (start_of (team_board_of to) kept t x).answer ≡ starts.Started → (n : ℕ) (ms : List ℕ)
      → let w = (start_of (team_board_of to) kept t x).rewind in Shows t from since w (n + total ms) (go_each w n ms)
  shows_by (Ok m) e h = shows_split m e
  shows_by (Err r) e h = let z : ◌≡◌ {A = ℕ} 0 1 = cc in absurd (omega arith)

  shows_started : (start_rewind to kept t).answer ≡ starts.Started → (n : ℕ) (ms : List ℕ)
      → let w = (start_rewind to kept t).rewind in Shows t from since w (n + total ms) (go_each w n ms)
  unfolding start_rewind
  shows_started = shows_by (sought_in to kept t) refl

pub goes_back : GoesBack
goes_back v before since = record { begins = begins v before since; shows = shows_started v before since }
