-- The statements of specs/Laws.antt. Assumes nothing.
use Prim.Native.Nat.{◌≤◌}
use mathlib.Core.Path.{◌≡◌, refl}
use mathlib.Core.Logic.{◌⊎◌, inl, inr}
use mathlib.Core.Bool.{true}
use mathlib.Core.List.{List, []}
use native.Mathlib.Omega.{arith}
use lib.Signed.{le_z}
use borrow.Author.Tests.{eq-eqb}
use Rattle.fields.proofs.Answers.{and_both}
use Rattle.state.specs.State.{same_int}
use Rattle.results.specs.Results.{Finish, best}
use Rattle.results.specs.Laws.{IsCounted, HasRow}
use Rattle.results.proofs.Theorems.{every_finish_listed, first_lowest}
use Rattle.ranking.specs.Ranking.{how_many}
use Rattle.ranking.specs.Laws.{RowsOf, of_client, no_higher, EveryFinish, EachRowIsFinish, AtMostOneRow, AtMost128}
use Rattle.ranking.proofs.Counts.{is_below, row_among, rows_are_below, fewer_of, client_rows, at_most_one, few_rows, all_pass}

no_higher_row : (fs : List Finish) (f : Finish) (h : HasRow f fs) → no_higher f h.row ≡ true
no_higher_row fs f h =
    let low = (first_lowest h.number fs h.row [] h.has).1 in
    and_both (same_int h.row.client f.client) (le_z h.row.time f.time) (rw (low.client, h.client) (eq-eqb h.number h.number refl)) h.no_higher_law

has_row : (fs rows : List Finish) → RowsOf fs rows → (f : Finish) → HasRow f fs → 1 ≤ how_many (no_higher f) rows
unfolding how_many
has_row fs rows o f h =
    let a = row_among (no_higher f) fs h.number 128 h.listed in
    let b : how_many (no_higher f) (best h.number fs) ≡ 1 = rw (h.has, no_higher_row fs f h) in
    omega (arith, a, b, o.same (no_higher f))

pub every_finish : EveryFinish
every_finish fs rows o f at = by_case (every_finish_listed f fs at)
  where
    by_case : IsCounted f fs at ⊎ HasRow f fs → IsCounted f fs at ⊎ (1 ≤ how_many (no_higher f) rows)
    by_case (inl c) = inl c
    by_case (inr h) = inr (has_row fs rows o f h)

pub each_row_is_finish : EachRowIsFinish
each_row_is_finish fs rows o test = omega (arith, o.same test, rows_are_below test fs 128, fewer_of test 128 fs)

pub at_most_one_row : AtMostOneRow
at_most_one_row fs rows o c = omega (arith, o.same (of_client c), client_rows c fs 128, at_most_one (is_below 128 c))

pub at_most_128 : AtMost128
at_most_128 fs rows o = omega (arith, o.same (λ g. true), all_pass rows, few_rows fs 128)
