-- The lines of a board that was rewound. docs/FORMAT.md, "The rewind program".
use Rattle.std.specs.Prelude.{ℕ, zero, suc, Bool, cond, List, [], ◌∷◌, ◌++◌, ℤ, pos, Option, Some, None}
use Rattle.state.specs.State.{present, x_of, y_of, holds, ten_of}
use Rattle.state.specs.declared.Entries.{Entries}
use Rattle.teams.specs.Teams.{has_team, number_of}
use Rattle.back.specs.declared.TeamBoard.{TeamBoard}
use Rattle.lines.specs.Lines.{text, plain_line, input_word, last_line}
use Rattle.lines.specs.declared.Ending.TheVariants as endings
use Rattle.rewinding.specs.declared.RewindAnswer.{RewindAnswer}
use Rattle.rewinding.specs.declared.RewindAnswer.TheVariants as answers
use Rattle.going.specs.declared.GoAnswer.{GoAnswer}
use Rattle.going.specs.declared.GoAnswer.TheVariants as goes

abbrev pub board_word : List ℕ
board_word = text "board"

abbrev pub player_word : List ℕ
player_word = text "player"

abbrev pub team_word : List ℕ
team_word = text "team"

-- `board t`, or `board -` outside a tick
abbrev pub tick_line : Option ℤ → List ℕ
tick_line (Some t) = plain_line board_word (t ∷ [])
tick_line None = text "board -\n"

-- `player c x y`
abbrev pub player_line : Entries → ℕ → List ℕ
player_line e c = plain_line player_word (pos c ∷ x_of e c ∷ y_of e c ∷ [])

-- `input c` and ten numbers
abbrev pub input_line : Entries → ℕ → List ℕ
input_line e c = plain_line input_word (pos c ∷ ten_of e.inputs c)

-- `team c n`
abbrev pub team_line : List ℤ → ℕ → List ℕ
team_line t c = plain_line team_word (pos c ∷ number_of t c ∷ [])

-- the lines of the clients below n that pass a test, rising
unfoldable pub lines_below : ℕ → (ℕ → Bool) → (ℕ → List ℕ) → List ℕ
lines_below zero passes line = []
lines_below (suc n) passes line = lines_below n passes line ++ cond (passes n) (line n) []

-- the players present, then those that have inputs, then those that have a team
unfoldable pub board_text : TeamBoard → List ℕ
board_text b =
    let e = b.board.entries in
    let t = b.teams in
    tick_line b.board.tick
    ++ (lines_below 128 (present e) (player_line e) ++ (lines_below 128 (holds e) (input_line e) ++ lines_below 128 (has_team t) (team_line t)))

-- the copy and `ended`, or `refused n`
abbrev pub rewound_text : RewindAnswer → TeamBoard → List ℕ
rewound_text answers.Ended b = board_text b ++ text "ended\n"
rewound_text (answers.Refused r) b = last_line (endings.Refused r)

-- the line of a call that goes on: `going`, `ended` or `refused n`
abbrev pub gone_line : GoAnswer → List ℕ
gone_line goes.Ended = text "ended\n"
gone_line goes.Going = text "going\n"
gone_line (goes.Refused r) = last_line (endings.Refused r)

-- the copy, and that line
abbrev pub gone_text : GoAnswer → TeamBoard → List ℕ
gone_text a b = board_text b ++ gone_line a

-- the longest text: 18 bytes, 128 players of 43, inputs of 138 and teams of 29 bytes, and room for the longest line
abbrev pub longest_board : ℕ
longest_board = 27036
