-- What holds of the replay program's turns and rounds, as statements: what windows/specs states of any printer; proofs/Theorems.antt proves
-- each. docs/FORMAT.md, "The replay program".
use Rattle.std.specs.Prelude.{ℕ, ◌+◌, ◌≤◌, ◌≡◌, true, false, List, ◌++◌, length}
use Rattle.kinds.specs.declared.Version.{Version}
use Rattle.state.specs.State.{empty_reader}
use Rattle.state.specs.declared.Reader.{Reader}
use Rattle.calls.specs.Along.{enough}
use Rattle.windows.specs.Turns as turns
use Rattle.windows.specs.Turns.{Turn, turns_by, turns_end}
use Rattle.windows.specs.Rounds.{Input, rounds_by, all_pieces}
use Rattle.replayer.specs.Replay.{as_text, replay_text}

-- turns from the empty reader on, of which one ends the replay, print the body's text, whatever room they had and in whatever pieces the
-- body arrived
abbrev pub turns_text : List Turn → Reader → List ℕ → List ℕ
turns_text = turns_by as_text

abbrev pub TurnsPrintText : Type 0
TurnsPrintText =
    (v : Version) (ts : List Turn) (body : List ℕ) → turns_end ts (empty_reader v) body ≡ true
    → turns_text ts (empty_reader v) body ≡ replay_text v body

-- a turn wants more bytes only where more may come, and where a call on all that is at hand and not used answers more: no line is held back
abbrev pub WantsAtMore : Type 0
WantsAtMore = turns.WantsAtMore

-- enough turns that have all the bytes end the replay
abbrev pub EnoughTurns : Type 0
EnoughTurns = turns.EnoughTurns

-- teams that are not refused 17, as those of an empty reader, change nothing of a turn
abbrev pub TurnsWithTeams : Type 0
TurnsWithTeams = turns.TurnsWithTeams

-- so many rounds at most, each with room for one event and n more: a turn, its text, and a read if it wants one
abbrev pub rounds_text : ℕ → ℕ → Reader → Input → List ℕ
rounds_text k n r i = rounds_by as_text k (λ (hand : List ℕ). n) r i

-- enough rounds print the text of the body, in whatever pieces it came
abbrev pub RoundsPrintText : Type 0
RoundsPrintText =
    (v : Version) (k n : ℕ) (hand : List ℕ) (pieces : List (List ℕ)) → let body = hand ++ all_pieces pieces in
    enough body + length pieces + 1 ≤ k
    → rounds_text k n (empty_reader v) (record { hand = hand; ended = false; pieces = pieces }) ≡ replay_text v body
