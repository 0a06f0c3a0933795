-- What is printed of an input that comes in pieces: rounds of a turn and a read, for any printer, as a statement; proofs/Rounds.antt proves it.
use Rattle.std.specs.Prelude.{ℕ, zero, suc, ◌+◌, ◌≤◌, ◌≡◌, Bool, true, false, cond, List, [], ◌∷◌, ◌++◌, length, drop}
use Rattle.kinds.specs.declared.Version.{Version}
use Rattle.state.specs.State.{empty_reader}
use Rattle.state.specs.declared.Reader.{Reader}
use Rattle.calls.specs.Along.{Run, enough}
use Rattle.windows.specs.Windows.{is_short, turn_run, ends, wants, Printer, run_by, printed_of}

-- the bytes at hand, whether the input has ended, and the pieces that the next reads give
pub record Input : Type 0 where
  pub hand : List ℕ
  pub ended : Bool
  pub pieces : List (List ℕ)

-- a read gives the next piece, behind the bytes at hand; the end, where there is none
abbrev pub read_on : List ℕ → List (List ℕ) → Input
read_on hand [] = record { hand = hand; ended = true; pieces = [] }
read_on hand (p ∷ ps) = record { hand = hand ++ p; ended = false; pieces = ps }

-- after a turn that used so many bytes: a read, if the turn wants one
abbrev pub input_after : Bool → ℕ → Input → Input
input_after true used i = read_on (drop used i.hand) i.pieces
input_after false used i = record { hand = drop used i.hand; ended = i.ended; pieces = i.pieces }

-- a turn on the bytes at hand, with room for one event and, by the bytes at hand, so many more
abbrev pub round_of : (List ℕ → ℕ) → Reader → Input → Run
round_of room r i = turn_run (suc (room i.hand)) r i.hand i.ended

abbrev pub last_round : Input → Run → Bool
last_round i run = ends (is_short i.hand) run.halt (length run.seen)

abbrev pub wants_read : Input → Run → Bool
wants_read i run = wants (is_short i.hand) run.halt

-- so many rounds at most: a turn, what it prints, and a read if it wants one
unfoldable pub rounds_by : {A : Type 0} → Printer A → ℕ → (List ℕ → ℕ) → Reader → Input → List A
rounds_by p zero room r i = []
rounds_by p (suc k) room r i =
    let run = round_of room r i in
    run_by p (is_short i.hand) run
    ++ cond (last_round i run) [] (rounds_by p k room run.reader (input_after (wants_read i run) run.used i))

unfoldable pub all_pieces : List (List ℕ) → List ℕ
all_pieces [] = []
all_pieces (p ∷ ps) = p ++ all_pieces ps

-- enough rounds print what is printed of the body, in whatever pieces it came and whatever room there was
abbrev pub RoundsPrint : {A : Type 0} → Printer A → Type 0
RoundsPrint p =
    (v : Version) (k : ℕ) (room : List ℕ → ℕ) (hand : List ℕ) (pieces : List (List ℕ)) → let body = hand ++ all_pieces pieces in
    enough body + length pieces + 1 ≤ k
    → rounds_by p k room (empty_reader v) (record { hand = hand; ended = false; pieces = pieces }) ≡ printed_of p v body
