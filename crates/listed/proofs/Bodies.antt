-- The list of a body, from the calls on it and the order of its rows. Assumes nothing.
use Prim.Native.Nat.{ℕ, ◌≤◌}
use mathlib.Core.Path.{◌≡◌, sym, ap, ◌∙◌}
use mathlib.Core.Bool.{true}
use mathlib.Core.List.{List}
use native.Mathlib.Omega.{arith}
use lib.ListN.{length}
use lib.IntN.{ℤ}
use borrow.Author.Tests.{le-leb}
use Rattle.kinds.specs.declared.Version.{Version}
use Rattle.state.specs.State.{empty_reader}
use Rattle.state.proofs.Numbers.{picks_first}
use Rattle.calls.specs.Along.{all_of, enough}
use Rattle.calls.proofs.Theorems.{run_within}
use Rattle.results.specs.Results.{no_results, keep, rows_below, fits}
use Rattle.results.specs.declared.Results.{Results}
use Rattle.results.proofs.Theorems.{all_rows_are_bests, count_is_others}
use Rattle.ranking.specs.Ranking.{Ranks}
use Rattle.listing.specs.Listing.{ListRun, some_seen, list_run, said_run}
use Rattle.listing.specs.declared.ListRead.{ListRead}
use Rattle.listed.specs.Listed.{body_run, body_finishes, ListsBody}
use Rattle.listed.specs.Laws.{FinishesInBytes}
use Rattle.listed.proofs.Lengths.{run_long, others_fewer}

pub finishes_in_bytes : FinishesInBytes
finishes_in_bytes v body =
    let r = empty_reader v in
    omega (arith, run_long (all_of true) (enough body) r body r.scalars.tick, run_within (all_of true) (λ b. omega arith) (enough body) r body)

module _ (v : Version) (body : List ℕ) (h : length body ≤ 18446744073709551615) where
  -- the count can rise that far
  count_fits : fits (keep no_results (body_finishes v body)) ≡ true
  count_fits =
      let fs = body_finishes v body in
      le-leb (keep no_results fs).others 18446744073709551615
      (omega (arith, count_is_others fs, others_fewer fs, finishes_in_bytes v body))

  module _ (read : ListRead) (said : said_run read ≡ list_run no_results (empty_reader v) (body_run v body)) where
    answer : said_run read ≡ record { halt = (body_run v body).halt; gave = some_seen (body_run v body).seen; used = (body_run v body).used; list = keep no_results (body_finishes v body); reader = (body_run v body).reader }
    answer = said ∙ sym (picks_first (fits (keep no_results (body_finishes v body))) _ _ count_fits)

    list_is : read.list ≡ keep no_results (body_finishes v body)
    list_is = ap (λ (x : ListRun). x.list) answer

    pub lists : (n : ℕ) (clients₀ times₀ ticks₀ clients₁ times₁ ticks₁ : List ℤ)
        → Ranks (rows_below 128 read.list) n clients₀ times₀ ticks₀ clients₁ times₁ ticks₁
        → ListsBody v body (record { rows = n; others = read.list.others; end = read.end }) clients₀ times₀ ticks₀ clients₁ times₁ ticks₁
    lists n clients₀ times₀ ticks₀ clients₁ times₁ ticks₁ r =
        let fs = body_finishes v body in
        record {
          rows = rw (ap (rows_below 128) list_is ∙ all_rows_are_bests fs) at r;
          others = ap (λ (x : Results). x.others) list_is ∙ count_is_others fs;
          end = ap (λ (x : ListRun). x.halt) answer;
        }
