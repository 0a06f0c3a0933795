-- Lines from rows of numbers.
use Rattle.std.specs.Prelude.{ℕ, ◌+◌, ◌*◌, ◌≤◌, ◌≡◌, cond, List, ◌∷◌, length, take, drop, get_or, ℤ, pos, Option, Some, None, Result, Ok, Err}
use Rattle.refusal.specs.declared.Refusal.{Refusal}
use Rattle.state.specs.State.{same_int}
use Rattle.team_calls.specs.Lists.{TeamSeen}
use Rattle.rows.specs.steps.Stores.{InRow, AllInRows}
use Rattle.lines.specs.steps.Puts.{PutsText}
use Rattle.lines.specs.Lines.{plain_line, plain_most, record_line, line_of, longest, text_answer, text_target}
use Rattle.row_lines.specs.Text.{text_of, events_in}

-- the place past what was written, else the place itself
abbrev pub past_or : Result ℕ Refusal → ℕ → ℕ
past_or (Ok next) at = next
past_or (Err r) at = at

-- a text is written where there is room for so many bytes
abbrev pub Tries : ℕ → List ℕ → ℕ → List ℕ → ℕ → List ℕ → Type 0
Tries most xs at text next ys = (next ≡ past_or (text_answer most xs at text) at) × (ys ≡ text_target most xs at text)

-- a word and numbers are
abbrev pub TriesPlain : List ℕ → List ℤ → List ℕ → ℕ → ℕ → List ℕ → Type 0
TriesPlain word ns xs at next ys = Tries (plain_most word ns) xs at (plain_line word ns) next ys

-- the client of which two numbers tell
abbrev pub cid_told : ℤ → ℤ → Option ℤ
cid_told has c = cond (same_int has (pos 1)) (Some c) None

-- a client's number in a row, and ten numbers
abbrev pub client_and : List ℤ → ℕ → List ℤ → ℕ → List ℤ
client_and rows first tens from = get_or rows first (pos 0) ∷ take 10 (drop from tens)

-- the line of a record whose kind's number and client stand at a place of a row
abbrev pub record_told : List ℤ → ℕ → List ℕ
record_told rows first =
    record_line (get_or rows first (pos 0)) (cid_told (get_or rows (first + 1) (pos 0)) (get_or rows (first + 2) (pos 0)))

-- the line of the event of which row i tells is put where the longest line has room
abbrev pub PutsLine : List ℤ → List ℤ → ℕ → List ℕ → ℕ → ℕ → List ℕ → Type 0
PutsLine rows tens i out at next ys =
    (x : TeamSeen) → InRow x i rows tens → at + longest ≤ length out → PutsText out at (line_of x.seen.event x.seen.ten) next ys

-- and so are those of the first rows, if there are so many
abbrev pub PutsLines : List ℤ → List ℤ → ℕ → List ℕ → ℕ → List ℕ → Type 0
PutsLines rows tens count out next ys =
    (xs : List TeamSeen) → length xs ≡ count → 8 * count ≤ length rows → 20 * count ≤ length tens → AllInRows 0 xs rows tens → longest * count ≤ length out → PutsText out 0 (text_of (events_in xs)) next ys
