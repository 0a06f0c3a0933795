-- Blocks of numbers put into a memory at places a fixed distance apart; rows and tens are put so. Assumes nothing.
use Rattle.std.specs.Prelude.{Option}
use Prim.Native.Nat.{ℕ, zero, suc, ◌+◌, ◌*◌, ◌≤◌}
use mathlib.Core.Path.{◌≡◌, refl, sym, ◌∙◌, ap}
use mathlib.Core.List.{List, [], ◌∷◌, ◌++◌, append_assoc}
use native.Mathlib.Omega.{arith}
use lib.ListN.{length, take, drop, length-append, take-append-drop}
use lib.Seq.{length-take-le, take-nil, take-take, take-append-le, drop-append-le, take-append_seam, drop_at, take_at}
use lib.IntN.{ℤ}
use Rattle.state.specs.Reading.{Event, tick_start, tick_end, player_new, player_change, player_old, input, other}
use Rattle.calls.specs.Calls.{Seen}
use Rattle.calls.specs.Laws.{TensBeside}
use Rattle.teams.specs.Teams.{Joining, joins, nobody, mark_for, number_for, teams_after, on_joining, joining_in}
use Rattle.team_calls.specs.Lists.{TeamSeen, with_formers}
use Rattle.rows.specs.Rows.{eight, plain_row, event_row, row_of, event_tens, tens_of, put, rows_from, tens_from}
use Rattle.rows.specs.steps.Stores.{AllInRows}
use Rattle.rows.proofs.Puts.{put_length}

drop_take : (a b : ℕ) (l : List ℤ) → drop a (take (a + b) l) ≡ take b (drop a l)
drop_take zero b l = let q : 0 + b ≡ b = omega arith in rw q
drop_take (suc a) b [] = let q : suc a + b ≡ suc (a + b) = omega arith in rw q (sym (take-nil b))
drop_take (suc a) b (x ∷ l) = let q : suc a + b ≡ suc (a + b) = omega arith in rw q (drop_take a b l)

-- ---- one block

module _ (mem : List ℤ) (at : ℕ) (ns : List ℤ) (fits : at + length ns ≤ length mem) where
  front : length (take at mem) ≡ at
  front = length-take-le at mem (omega arith)

  put_before : take at (put mem at ns) ≡ take at mem
  unfolding put
  put_before = take_at (take at mem) (ns ++ drop (at + length ns) mem) at front

  put_here : take (length ns) (drop at (put mem at ns)) ≡ ns
  unfolding put
  put_here =
      ap (take (length ns)) (drop_at (take at mem) (ns ++ drop (at + length ns) mem) at front)
      ∙ take-append_seam ns (drop (at + length ns) mem)

-- in the front of a memory
put_front : (a b : List ℤ) (at : ℕ) (ns : List ℤ) → at + length ns ≤ length a → put (a ++ b) at ns ≡ put a at ns ++ b
unfolding put
put_front a b at ns h =
    rw (take-append-le at a b (omega arith), drop-append-le (at + length ns) a b h) (simp append_assoc)

-- ---- blocks, k apart, none longer

module _ (f : TeamSeen → List ℤ) (k : ℕ) where
  abbrev from : ℕ → List TeamSeen → List ℤ → List ℤ
  from at [] mem = mem
  from at (x ∷ xs) mem = from (at + k) xs (put mem at (f x))

  abbrev Small : List TeamSeen → Type 0
  Small [] = Unit {0}
  Small (x ∷ xs) = (length (f x) ≤ k) × Small xs

  abbrev size : List TeamSeen → ℕ
  size [] = 0
  size (x ∷ xs) = k + size xs

  before : (at : ℕ) (xs : List TeamSeen) (mem : List ℤ) → Small xs → at + size xs ≤ length mem → take at (from at xs mem) ≡ take at mem
  before at [] mem s h = refl
  before at (x ∷ xs) mem s h =
      let fits : at + length (f x) ≤ length mem = omega (arith, s.0) in
      let l = put_length mem at (f x) fits in
      let m = put mem at (f x) in
      sym (take-take at (at + k) (from (at + k) xs m) (omega arith))
      ∙ ap (take at) (before (at + k) xs m s.1 (omega arith))
      ∙ take-take at (at + k) m (omega arith)
      ∙ put_before mem at (f x) fits

  here : (at : ℕ) (x : TeamSeen) (xs : List TeamSeen) (mem : List ℤ) → length (f x) ≤ k → Small xs → at + (k + size xs) ≤ length mem
      → take (length (f x)) (drop at (from (at + k) xs (put mem at (f x)))) ≡ f x
  here at x xs mem s t h =
      let n = length (f x) in
      let fits : at + length (f x) ≤ length mem = omega arith in
      let l = put_length mem at (f x) fits in
      let m = put mem at (f x) in
      let r = from (at + k) xs m in
      sym (take-take n k (drop at r) s)
      ∙ ap (take n) (sym (drop_take at k r) ∙ ap (drop at) (before (at + k) xs m t (omega arith)) ∙ drop_take at k m)
      ∙ take-take n k (drop at m) s
      ∙ put_here mem at (f x) fits

  same_size : (at : ℕ) (xs : List TeamSeen) (mem : List ℤ) → Small xs → at + size xs ≤ length mem → length (from at xs mem) ≡ length mem
  same_size at [] mem s h = refl
  same_size at (x ∷ xs) mem s h =
      let fits : at + length (f x) ≤ length mem = omega (arith, s.0) in
      let l = put_length mem at (f x) fits in
      same_size (at + k) xs (put mem at (f x)) s.1 (omega arith) ∙ l

  in_front_law : (at : ℕ) (xs : List TeamSeen) (a b : List ℤ) → Small xs → at + size xs ≤ length a → from at xs (a ++ b) ≡ from at xs a ++ b
  in_front_law at [] a b s h = refl
  in_front_law at (x ∷ xs) a b s h =
      let fits : at + length (f x) ≤ length a = omega (arith, s.0) in
      let l = put_length a at (f x) fits in
      ap (from (at + k) xs) (put_front a b at (f x) fits) ∙ in_front_law (at + k) xs (put a at (f x)) b s.1 (omega arith)

-- ---- rows and tens

record_row_length : (m : Option ℤ) (n p : ℤ) (plain : List ℤ) (j : Joining) → length plain ≡ 8
    → length (on_joining (λ c t. eight 8 n c t (mark_for m) (number_for m) p) plain j) ≡ 8
record_row_length m n p plain (joins c t) h = refl
record_row_length m n p plain nobody h = h

event_row_length : (e : Event) (m : Option ℤ) (n p : ℤ) → length (event_row e m n p) ≡ 8
event_row_length (tick_start t) m n p = refl
event_row_length (tick_end t) m n p = refl
event_row_length (player_new c x y) m n p = refl
event_row_length (player_change c x y old-x old-y) m n p = refl
event_row_length (player_old c x y) m n p = refl
event_row_length (input c former) m n p = refl
event_row_length (other r) m n p = record_row_length m n p (plain_row r n p) (joining_in r) refl

row_length : (x : TeamSeen) → length (row_of x) ≡ 8
unfolding row_of
row_length x = event_row_length x.seen.event x.team _ _

event_tens_le : (e : Event) (ten former : List ℤ) → length ten ≡ 10 → length former ≡ 10 → length (event_tens e ten former) ≤ 20
event_tens_le (tick_start t) ten former h k = omega arith
event_tens_le (tick_end t) ten former h k = omega arith
event_tens_le (player_new c x y) ten former h k = omega arith
event_tens_le (player_change c x y old-x old-y) ten former h k = omega arith
event_tens_le (player_old c x y) ten former h k = omega arith
event_tens_le (input c held) ten former h k = omega (arith, length-append ten former)
event_tens_le (other r) ten former h k = omega arith

tens_le : (x : TeamSeen) → length x.seen.ten ≡ 10 → length x.seen.former ≡ 10 → length (tens_of x) ≤ 20
unfolding tens_of
tens_le x h k = event_tens_le x.seen.event x.seen.ten x.seen.former h k

-- ten numbers and former ten stand beside each
abbrev Beside : List TeamSeen → Type 0
Beside [] = Unit {0}
Beside (x ∷ xs) = ((length x.seen.ten ≡ 10) × (length x.seen.former ≡ 10)) × Beside xs

beside : (t : List ℤ) (xs : List Seen) → TensBeside xs → Beside (with_formers t xs)
unfolding TensBeside with_formers
beside t [] b = tt
beside t (x ∷ xs) b = (b.0, beside (teams_after x.event t) xs b.1)

pub formers_length : (t : List ℤ) (xs : List Seen) → length (with_formers t xs) ≡ length xs
unfolding with_formers
formers_length t [] = refl
formers_length t (x ∷ xs) = ap suc (formers_length (teams_after x.event t) xs)

rows_small : (xs : List TeamSeen) → Small row_of 8 xs
rows_small [] = tt
rows_small (x ∷ xs) = (omega (arith, row_length x), rows_small xs)

tens_small : (xs : List TeamSeen) → Beside xs → Small tens_of 20 xs
tens_small [] t = tt
tens_small (x ∷ xs) t = (tens_le x t.0.0 t.0.1, tens_small xs t.1)

rows_size : (xs : List TeamSeen) → size row_of 8 xs ≡ 8 * length xs
rows_size [] = refl
rows_size (x ∷ xs) = omega (arith, rows_size xs)

tens_size : (xs : List TeamSeen) → size tens_of 20 xs ≡ 20 * length xs
tens_size [] = refl
tens_size (x ∷ xs) = omega (arith, tens_size xs)

rows_are : (i : ℕ) (xs : List TeamSeen) (mem : List ℤ) → rows_from i xs mem ≡ from row_of 8 (8 * i) xs mem
unfolding rows_from
rows_are i [] mem = refl
rows_are i (x ∷ xs) mem =
    let e : 8 * suc i ≡ 8 * i + 8 = omega arith in
    rows_are (suc i) xs (put mem (8 * i) (row_of x)) ∙ rw e

tens_are : (i : ℕ) (xs : List TeamSeen) (mem : List ℤ) → tens_from i xs mem ≡ from tens_of 20 (20 * i) xs mem
unfolding tens_from
tens_are i [] mem = refl
tens_are i (x ∷ xs) mem =
    let e : 20 * suc i ≡ 20 * i + 20 = omega arith in
    tens_are (suc i) xs (put mem (20 * i) (tens_of x)) ∙ rw e

-- rows and tens that were put tell of their events
told : (i : ℕ) (xs : List TeamSeen) (rows tens : List ℤ) → Beside xs → 8 * i + 8 * length xs ≤ length rows
    → 20 * i + 20 * length xs ≤ length tens → AllInRows i xs (from row_of 8 (8 * i) xs rows) (from tens_of 20 (20 * i) xs tens)
unfolding AllInRows
told i [] rows tens t h k = tt
told i (x ∷ xs) rows tens t h k =
    let a : 8 * suc i ≡ 8 * i + 8 = omega arith in
    let b : 20 * suc i ≡ 20 * i + 20 = omega arith in
    let small = tens_le x t.0.0 t.0.1 in
    let l = put_length rows (8 * i) (row_of x) (omega (arith, row_length x)) in
    let m = put_length tens (20 * i) (tens_of x) (omega arith) in
    let r = here row_of 8 (8 * i) x xs rows (omega (arith, row_length x)) (rows_small xs) (omega (arith, rows_size xs)) in (
      record {
        row = rw (row_length x) at r;
        twenty = here tens_of 20 (20 * i) x xs tens small (tens_small xs t.1) (omega (arith, tens_size xs));
        ten = t.0.0;
      },
      rw (a, b) at (told (suc i) xs (put rows (8 * i) (row_of x)) (put tens (20 * i) (tens_of x)) t.1 (omega arith) (omega arith)),
    )

-- events of calls without teams, with the teams t before them
module _ (t : List ℤ) (xs : List Seen) (b : TensBeside xs) where
  abbrev all : List TeamSeen
  all = with_formers t xs

  sizes : (size row_of 8 all ≡ 8 * length xs) × (size tens_of 20 all ≡ 20 * length xs)
  sizes = (rows_size all ∙ ap (λ (n : ℕ). 8 * n) (formers_length t xs), tens_size all ∙ ap (λ (n : ℕ). 20 * n) (formers_length t xs))

  pub all_told : (rows tens : List ℤ) → 8 * length xs ≤ length rows → 20 * length xs ≤ length tens
      → AllInRows 0 all (rows_from 0 all rows) (tens_from 0 all tens)
  all_told rows tens h k =
      rw (rows_are 0 all rows, tens_are 0 all tens)
      (told 0 all rows tens (beside t xs b) (omega (arith, formers_length t xs)) (omega (arith, formers_length t xs)))

  pub rows_length : (mem : List ℤ) → 8 * length xs ≤ length mem → length (rows_from 0 all mem) ≡ length mem
  rows_length mem h = rw (rows_are 0 all mem) (same_size row_of 8 0 all mem (rows_small all) (omega (arith, sizes.0)))

  pub tens_length : (mem : List ℤ) → 20 * length xs ≤ length mem → length (tens_from 0 all mem) ≡ length mem
  tens_length mem h = rw (tens_are 0 all mem) (same_size tens_of 20 0 all mem (tens_small all (beside t xs b)) (omega (arith, sizes.1)))

  -- in the front of a memory
  pub front_rows : (c : ℕ) (mem : List ℤ) → c ≤ length mem → 8 * length xs ≤ c → rows_from 0 all (take c mem) ++ drop c mem ≡ rows_from 0 all mem
  front_rows c mem h k =
      let l = length-take-le c mem h in
      rw (rows_are 0 all (take c mem), rows_are 0 all mem)
      (sym (in_front_law row_of 8 0 all (take c mem) (drop c mem) (rows_small all) (omega (arith, sizes.0)))
      ∙ ap (from row_of 8 0 all) (take-append-drop c mem))

  pub front_tens : (c : ℕ) (mem : List ℤ) → c ≤ length mem → 20 * length xs ≤ c → tens_from 0 all (take c mem) ++ drop c mem ≡ tens_from 0 all mem
  front_tens c mem h k =
      let l = length-take-le c mem h in
      rw (tens_are 0 all (take c mem), tens_are 0 all mem)
      (sym (in_front_law tens_of 20 0 all (take c mem) (drop c mem) (tens_small all (beside t xs b)) (omega (arith, sizes.1)))
      ∙ ap (from tens_of 20 0 all) (take-append-drop c mem))
