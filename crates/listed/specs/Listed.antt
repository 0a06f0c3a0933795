-- The results list of a whole body. docs/FORMAT.md, "The results list".
use Rattle.std.specs.Prelude.{ℕ, ◌≡◌, true, List, ℤ}
use Rattle.kinds.specs.declared.Version.{Version}
use Rattle.state.specs.State.{empty_reader}
use Rattle.calls.specs.Along.{Run}
use Rattle.results.specs.Results.{Finish, bests_below, others_in}
use Rattle.ranking.specs.Ranking.{Ranks}
use Rattle.listing.specs.Listing.{whole_run, finishes_of, halt_of}
use Rattle.listed.specs.declared.Listed.{Listed}

-- a body read whole from an empty reader
abbrev pub body_run : Version → List ℕ → Run
body_run v body = whole_run (empty_reader v) body true

-- its finishes before the first refusal or finish
abbrev pub body_finishes : Version → List ℕ → List Finish
body_finishes v body = finishes_of (empty_reader v) (body_run v body)

-- the list of a body: a row for each client 0 to 127 that finished, in lent arrays; the finishes of other clients counted; how the body ends
pub record ListsBody (v : Version) (body : List ℕ) (r : Listed) (clients₀ times₀ ticks₀ clients₁ times₁ ticks₁ : List ℤ) : Type 0 where
  pub rows : Ranks (bests_below 128 (body_finishes v body)) r.rows clients₀ times₀ ticks₀ clients₁ times₁ ticks₁
  pub others : r.others ≡ others_in (body_finishes v body)
  pub end : halt_of r.end ≡ (body_run v body).halt
