-- The ladder program's loop on an input that comes in pieces, as a statement; proofs/Theorems.antt proves it. docs/FORMAT.md, "The ladder program".
use Rattle.std.specs.Prelude.{ℕ, zero, suc, ◌+◌, ◌≤◌, ◌≡◌, Bool, true, false, List, ◌++◌, length}
use Rattle.kinds.specs.declared.Version.{Version}
use Rattle.state.specs.State.{empty_reader}
use Rattle.state.specs.declared.Reader.{Reader}
use Rattle.calls.specs.Along.{enough}
use Rattle.windows.specs.Rounds.{Input, input_after, all_pieces}
use Rattle.results.specs.Results.{no_results, fits}
use Rattle.results.specs.declared.Results.{Results}
use Rattle.ladder_turns.specs.Ladder.{Next, goes_on, wants_bytes, ends_as, Turned, turn_on, ladder_list, ladder_last}

-- the list and what follows it
pub record Climbed : Type 0 where
  pub list : Results
  pub next : Next

abbrev pub on_next : Turned → (Bool → Climbed) → Next → Climbed
on_next t again goes_on = again false
on_next t again wants_bytes = again true
on_next t again (ends_as x) = record { list = t.list; next = ends_as x }

-- so many rounds at most: a turn, and a read if it wants one
unfoldable pub list_rounds : ℕ → Results → Reader → Input → Climbed
list_rounds zero l r i = record { list = l; next = goes_on }
list_rounds (suc k) l r i =
    let t = turn_on l r i.hand i.ended in
    on_next t (λ wants. list_rounds k t.list t.reader (input_after wants t.used i)) t.next

-- enough rounds make the list of the body and end as it does, in whatever pieces it came, unless it has more than 2^64 - 1 finishes of clients
-- that are not listed
abbrev pub RoundsList : Type 0
RoundsList =
    (v : Version) (k : ℕ) (hand : List ℕ) (pieces : List (List ℕ)) → let body = hand ++ all_pieces pieces in
    enough body + length pieces + 1 ≤ k → fits (ladder_list v body) ≡ true
    → list_rounds k no_results (empty_reader v) (record { hand = hand; ended = false; pieces = pieces })
    ≡ record { list = ladder_list v body; next = ends_as (ladder_last v body) }
