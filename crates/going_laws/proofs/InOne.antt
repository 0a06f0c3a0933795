-- Rewinding is a start and one call over enough events. Assumes nothing.
use Rattle.std.specs.Prelude.{Result, Ok, Err}
use Prim.Native.Nat.{ℕ, suc, ◌-◌, ◌≤◌, ◌<◌}
use mathlib.Core.Path.{◌≡◌, refl, sym, ap, ◌∙◌}
use mathlib.Core.Bool.{Bool, true, false, cond, false≢true, ◌&&◌}
use mathlib.Core.List.{List, [], ◌∷◌}
use native.Mathlib.Omega.{arith}
use native.Mathlib.Nat.{min-eq_right}
use lib.ListN.{take}
use lib.Dec.{ltb, leb, eqb-suc-zero}
use lib.IntN.{ℤ}
use borrow.Author.Tests.{ltb-true, ltb-false, leb-true}
use Rattle.num.proofs.Cases.{by_bool}
use Rattle.refusal.specs.declared.Refusal.{Refusal}
use Rattle.refusal.specs.declared.Refusal.TheVariants.{BadState, Closed, NotLast}
use Rattle.fields.proofs.Answers.{and_split}
use Rattle.teams.specs.Teams.{good_team_reader}
use Rattle.teams.specs.declared.TeamReader.{TeamReader}
use Rattle.state.proofs.Every.{right_of}
use Rattle.back.specs.TeamBoard.{was, refused, team_board_of, good_team_board}
use Rattle.back.specs.declared.TeamBoard.{TeamBoard}
use Rattle.taking.specs.Taking.{TeamTaken}
use Rattle.reel.specs.Reel.{Row, good_reel, rows_of}
use Rattle.reel.specs.declared.Reel.{Reel}
use Rattle.reel.proofs.Ring.{rows_taken}
use Rattle.rewinding.specs.Rewinding.{
  is_start,
  Newer,
  newer,
  gone,
  one_newer,
  newer_than,
  closed_by_refusal,
  sought_of,
  sought_in,
  step_over,
  copy_of,
  step_back_to,
  rewind_to,
}
use Rattle.rewinding.specs.Walk.{Walked, walk}
use Rattle.rewinding.proofs.Walks.{walk_over}
use Rattle.going.specs.Going.{progress_of, rewind_of, start_of, start_rewind, start_behind, go_on}
use Rattle.going_laws.specs.Laws.{answer_of, RewindsInOne}
use Rattle.going.specs.steps.Places.{gone_from}
use Rattle.going.specs.declared.Rewind.{Rewind}
use Rattle.going.specs.declared.StartAnswer.TheVariants as starts
use Rattle.going.specs.declared.Go.{Go}
use Rattle.going.proofs.Places.{start_beyond}
use Rattle.going.proofs.Walks.{walk_go, walk_all}
use Rattle.going_laws.proofs.Boards.{reader_board}

-- ---- what is found stands in its place

abbrev There : ℤ → List Row → Newer → Type 0
There t rs (newer n) = start_behind t n rs ≡ true
There t rs gone = Unit {0}

module _ (t : ℤ) (x : Row) (xs : List Row) where
  there_by : (b : Bool) (y : Newer) → is_start t x.undo ≡ b → There t xs y → There t (x ∷ xs) (cond b (newer 0) (one_newer y))
  unfolding start_behind
  there_by true y e h = e
  there_by false (newer n) e h = let f : suc n - 1 ≡ n = omega arith in rw (eqb-suc-zero n, f) h
  there_by false gone e h = tt

there : (t : ℤ) (rs : List Row) → There t rs (newer_than t rs)
unfolding newer_than
there t [] = tt
there t (x ∷ xs) = there_by t x xs (is_start t x.undo) (newer_than t xs) refl (there t xs)

-- ---- what a start has tested

pub record Tested (r : TeamReader) (l : Reel) (t : ℤ) (n : ℕ) : Type 0 where
  pub board : good_team_board (team_board_of r) ≡ true
  pub reel : good_reel l ≡ true
  pub start : start_behind t n (rows_of l) ≡ true

abbrev SoughtIs : TeamReader → Reel → ℤ → Result ℕ Refusal → Type 0
SoughtIs r l t (Ok n) = Tested r l t n
SoughtIs r l t (Err x) = Unit {0}

module _ (r : TeamReader) (l : Reel) (t : ℤ) where
  sought_by : (g c : Bool) (y : Newer) → (good_team_reader r && good_reel l) ≡ g → There t (rows_of l) y
      → SoughtIs r l t (cond g (cond c (Err Closed) (sought_of y)) (Err BadState))
  sought_by true false (newer n) e h =
      let good = and_split (good_team_reader r) (good_reel l) e in
      record { board = reader_board r good.0; reel = good.1; start = h }
  sought_by true false gone e h = tt
  sought_by true true y e h = tt
  sought_by false c y e h = tt

  sought : SoughtIs r l t (sought_in r l t)
  unfolding sought_in
  sought =
      sought_by (good_team_reader r && good_reel l) (closed_by_refusal r.reader.scalars.standing) (newer_than t (rows_of l)) refl (there t (rows_of l))

  module _ (n : ℕ) (h : Tested r l t n) where
    below_count : n < l.counts.count
    below_count =
        by_bool (ltb n l.counts.count) (ltb-true n l.counts.count)
        (λ f. absurd (false≢true (rw (start_beyond t l n (ltb-false n l.counts.count f)) at h.start)))

    below_room : n < 512
    below_room =
        omega
        (arith, below_count, leb-true l.counts.count 512 (right_of (ltb l.counts.next 512) (leb l.counts.count 512) h.reel))

-- ---- a call over enough events

abbrev begun : TeamBoard → Reel → ℤ → ℕ → Rewind
begun b l t m = rewind_of b l (progress_of t m false)

module _ (b : TeamBoard) (l : Reel) (t : ℤ) (m : ℕ) (x : Walked) where
  same_answer : (x.taken.fits ≡ true → x.over ≡ m) → (gone_from (begun b l t m) x).answer ≡ answer_of (copy_of x.taken)
  same_answer all =
      by_bool x.taken.fits (λ e. let f : m - m ≡ 0 = omega arith in rw (e, all e, f)) (λ e. rw e)

  same_copy : (a : TeamBoard) → copy_of x.taken ≡ was a → (gone_from (begun b l t m) x).rewind.board ≡ a
  same_copy a e =
      by_bool x.taken.fits
      (λ f.
      let fitted : was x.taken.board ≡ was a = rw f at e in
      let q : x.taken.board ≡ a = cc in
      rw f q)
      (λ f.
      let refuses : refused NotLast ≡ was a = rw f at e in
      let z : ◌≡◌ {A = ℕ} 0 1 = cc in
      absurd (omega arith))

module _ (r : TeamReader) (l : Reel) (t : ℤ) (m : ℕ) (h : Tested r l t m) (n : ℕ) (enough : m ≤ n) where
  abbrev walked : Walked
  walked = walk l m l.counts.next 0 (team_board_of r)

  call_walks : go_on (begun (team_board_of r) l t m) n ≡ gone_from (begun (team_board_of r) l t m) walked
  unfolding go_on
  call_walks =
      rw (h.board, h.reel, h.start)
      (walk_go n (begun (team_board_of r) l t m)
      ∙ ap (λ (k : ℕ). gone_from (begun (team_board_of r) l t m) (walk l k l.counts.next 0 (team_board_of r))) (min-eq_right enough))

  walks_rows : walked.taken ≡ step_over (take m (rows_of l)) (team_board_of r)
  walks_rows =
      walk_over l m l.counts.next 0 (team_board_of r)
      ∙ ap (λ rs. step_over rs (team_board_of r)) (sym (rows_taken l m (omega (arith, below_count r l t m h))))

  call_answers : (go_on (begun (team_board_of r) l t m) n).answer ≡ answer_of (copy_of (step_over (take m (rows_of l)) (team_board_of r)))
  call_answers =
      ap (λ (g : Go). g.answer) call_walks
      ∙ same_answer (team_board_of r) l t m walked (λ e. walk_all l m l.counts.next 0 (team_board_of r) e ∙ (omega arith))
      ∙ ap (λ (x : TeamTaken). answer_of (copy_of x)) walks_rows

  call_copies : (a : TeamBoard) → copy_of (step_over (take m (rows_of l)) (team_board_of r)) ≡ was a → (go_on (begun (team_board_of r) l t m) n).rewind.board ≡ a
  call_copies a e =
      ap (λ (g : Go). g.rewind.board) call_walks ∙ same_copy (team_board_of r) l t m walked a (ap (λ (x : TeamTaken). copy_of x) walks_rows ∙ e)

-- ---- both, by what the start has found

module _ (r : TeamReader) (l : Reel) (t : ℤ) where
  abbrev Begins : Result ℕ Refusal → Type 0
  Begins s = (start_of (team_board_of r) l t s).answer ≡ starts.Started

  abbrev Enough : Result ℕ Refusal → ℕ → Type 0
  Enough s n = (start_of (team_board_of r) l t s).rewind.progress.newer ≤ n

  refuses_by : (s : Result ℕ Refusal) (x : Refusal) → (start_of (team_board_of r) l t s).answer ≡ starts.Refused x → step_back_to (rows_of l) (team_board_of r) s ≡ refused x
  refuses_by (Ok m) x e = let z : ◌≡◌ {A = ℕ} 0 1 = cc in absurd (omega arith)
  refuses_by (Err y) x e = let q : y ≡ x = cc in rw q

  enough_by : (s : Result ℕ Refusal) → SoughtIs r l t s → (start_of (team_board_of r) l t s).rewind.progress.newer < 512
  enough_by (Ok m) h = below_room r l t m h
  enough_by (Err y) h = omega arith

  answers_by : (s : Result ℕ Refusal) → SoughtIs r l t s → Begins s → (n : ℕ) → Enough s n
      → (go_on (start_of (team_board_of r) l t s).rewind n).answer ≡ answer_of (step_back_to (rows_of l) (team_board_of r) s)
  answers_by (Ok m) h b n e = call_answers r l t m h n e
  answers_by (Err y) h b n e = let z : ◌≡◌ {A = ℕ} 0 1 = cc in absurd (omega arith)

  copy_by : (s : Result ℕ Refusal) → SoughtIs r l t s → Begins s → (n : ℕ) → Enough s n → (a : TeamBoard) → step_back_to (rows_of l) (team_board_of r) s ≡ was a
      → (go_on (start_of (team_board_of r) l t s).rewind n).rewind.board ≡ a
  copy_by (Ok m) h b n e = call_copies r l t m h n e
  copy_by (Err y) h b n e = let z : ◌≡◌ {A = ℕ} 0 1 = cc in absurd (omega arith)

pub in_one : RewindsInOne
unfolding start_rewind rewind_to
in_one r l t =
    record {
      refuses = refuses_by r l t (sought_in r l t);
      enough = enough_by r l t (sought_in r l t) (sought r l t);
      answers = answers_by r l t (sought_in r l t) (sought r l t);
      copy = copy_by r l t (sought_in r l t) (sought r l t);
    }
