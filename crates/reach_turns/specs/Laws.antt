-- The reach program's reading of a file that comes in pieces, as a statement; proofs/Theorems.antt proves it. docs/FORMAT.md, "The reach program".
use Rattle.std.specs.Prelude.{ℕ, zero, suc, ◌+◌, ◌≤◌, ◌≡◌, false, cond, ◌||◌, List, ◌++◌, length, drop, ℤ}
use Rattle.kinds.specs.declared.Version.{Version}
use Rattle.state.specs.State.{empty_reader}
use Rattle.teams.specs.Teams.{no_teams, team_reader, empty_team_reader}
use Rattle.teams.specs.declared.TeamReader.{TeamReader}
use Rattle.calls.specs.Calls.{Call}
use Rattle.calls.specs.Along.{Halt, is_full, Run, along, enough}
use Rattle.team_calls.specs.Lists.{teams_over}
use Rattle.windows.specs.Windows.{window_of}
use Rattle.windows.specs.Rounds.{Input, input_after, last_round, wants_read, all_pieces}
use Rattle.reach_turns.specs.Turns.{turn_on}

-- ---- a whole body

-- what each call sees of the bytes left: the window at its place, with the flag off
abbrev pub body_call : List ℕ → Call
body_call bytes = record { window = window_of bytes; last = false }

-- the calls of the program; their reader is one reached by reading, with its teams too (RunsAreTeamLists)
abbrev pub body_run : Version → List ℕ → Run
body_run v body = along body_call (enough body) (empty_reader v) body

-- what is read of a body: the reader left, why the last call gave no event, the bytes left unread
pub record FileRead : Type 0 where
  pub reader : TeamReader
  pub halt : Halt
  pub left : List ℕ

-- by a run, with the teams t₀ before it
abbrev pub read_by : List ℤ → Run → List ℕ → FileRead
read_by t₀ run body = record { reader = team_reader run.reader (teams_over t₀ run.seen); halt = run.halt; left = drop run.used body }

-- ---- turns and reads

abbrev pub bytes_in : Input → List ℕ
bytes_in i = i.hand ++ all_pieces i.pieces

-- so many rounds at most: a turn, and a read if it wants one. The last is one that ends the reading, or whose read finds that the file has ended
unfoldable pub file_rounds : ℕ → TeamReader → Input → FileRead
file_rounds zero r i = record { reader = r; halt = is_full; left = bytes_in i }
file_rounds (suc k) r i =
    let run = turn_on r i.hand in
    let now = read_by r.teams run (bytes_in i) in
    let next = input_after (wants_read i run) run.used i in
    cond (last_round i run || next.ended) now (file_rounds k now.reader next)

-- enough rounds read the body, in whatever pieces it came
abbrev pub RoundsRead : Type 0
RoundsRead =
    (v : Version) (k : ℕ) (hand : List ℕ) (pieces : List (List ℕ)) → let body = hand ++ all_pieces pieces in
    enough body + length pieces + 1 ≤ k
    → file_rounds k (empty_team_reader v) (record { hand = hand; ended = false; pieces = pieces }) ≡ read_by no_teams (body_run v body) body
