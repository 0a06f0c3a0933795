-- The lines that the replay program prints. docs/FORMAT.md, "The replay program". A text is a list of bytes.
use Rattle.std.specs.Prelude.{ℕ, zero, suc, ◌+◌, ◌*◌, ◌/◌, ◌%◌, cond, List, [], ◌∷◌, ◌++◌, ltb, leb, length, ℤ, pos, negsuc, Option, Some, None, Result, Ok, Err}
use Prim.Native.Char.{code}
use Prim.Native.String.{String, [] as []ᵗ, ◌∷◌ as ◌∷ᵗ◌}
use Rattle.refusal.specs.declared.Refusal.{Refusal}
use Rattle.refusal.specs.Numbers.{number_of}
use Rattle.refusal.specs.declared.Refusal.TheVariants.{ShortTarget}
use Rattle.varint.specs.Written.{written}
use Rattle.item.specs.Contents.{cid_of}
use Rattle.item.specs.Numbers.{tag_number}
use Rattle.state.specs.Reading.{Event, tick_start, tick_end, player_new, player_change, player_old, input, other}
use Rattle.lines.specs.declared.Ending.{Ending}
use Rattle.lines.specs.declared.Ending.TheVariants.{Finish, Refused, TooLong}

-- ---- numbers

-- the decimal digits of n before some bytes, at most so many
unfoldable pub decimal_digits : ℕ → ℕ → List ℕ → List ℕ
decimal_digits zero n rest = rest
decimal_digits (suc k) n rest = cond (ltb n 10) ((48 + n) ∷ rest) (decimal_digits k (n / 10) ((48 + n % 10) ∷ rest))

-- a number of at most ten digits
unfoldable pub natural : ℕ → List ℕ
natural n = decimal_digits 10 n []

abbrev pub decimal : ℤ → List ℕ
decimal (pos n) = natural n
decimal (negsuc n) = 0x2D ∷ natural (suc n)

-- a space and a number
unfoldable pub spaced : ℤ → List ℕ
spaced z = 0x20 ∷ decimal z

-- numbers, a space before each
unfoldable pub decimals : List ℤ → List ℕ
decimals [] = []
decimals (z ∷ zs) = spaced z ++ decimals zs

-- ---- words

-- the bytes of a text, which is ASCII
abbrev pub text : String → List ℕ
text []ᵗ = []
text (c ∷ᵗ s) = code c ∷ text s

abbrev pub newline : List ℕ
newline = text "\n"

abbrev pub start_word : List ℕ
start_word = text "start"

abbrev pub end_word : List ℕ
end_word = text "end"

abbrev pub new_word : List ℕ
new_word = text "new"

abbrev pub change_word : List ℕ
change_word = text "change"

abbrev pub old_word : List ℕ
old_word = text "old"

abbrev pub input_word : List ℕ
input_word = text "input"

abbrev pub record_word : List ℕ
record_word = text "record"

abbrev pub finish_word : List ℕ
finish_word = text "finish"

abbrev pub refused_word : List ℕ
refused_word = text "refused"

abbrev pub too_long_words : List ℕ
too_long_words = text "too long"

-- ---- lines

-- the client, or `-`
abbrev pub client : Option ℤ → List ℕ
client (Some c) = decimals (c ∷ [])
client None = 0x20 ∷ 0x2D ∷ []

-- a word and numbers
abbrev pub plain_line : List ℕ → List ℤ → List ℕ
plain_line word ns = word ++ (decimals ns ++ newline)

abbrev pub record_line : ℤ → Option ℤ → List ℕ
record_line k c = record_word ++ (decimals (k ∷ []) ++ (client c ++ newline))

abbrev pub line_of : Event → List ℤ → List ℕ
line_of (tick_start t) ten = plain_line start_word (t ∷ [])
line_of (tick_end t) ten = plain_line end_word (t ∷ [])
line_of (player_new c x y) ten = plain_line new_word (c ∷ x ∷ y ∷ [])
line_of (player_change c x y old-x old-y) ten = plain_line change_word (c ∷ x ∷ y ∷ old-x ∷ old-y ∷ [])
line_of (player_old c x y) ten = plain_line old_word (c ∷ x ∷ y ∷ [])
line_of (input c former) ten = plain_line input_word (c ∷ ten)
line_of (other r) ten = record_line (tag_number r.tag) (cid_of r)

-- the last line
abbrev pub last_line : Ending → List ℕ
last_line Finish = finish_word ++ newline
last_line (Refused r) = plain_line refused_word (pos (number_of r) ∷ [])
last_line TooLong = too_long_words ++ newline

-- a line with each number at its longest: a space and eleven bytes
abbrev pub plain_most : List ℕ → List ℤ → ℕ
plain_most word ns = length word + 12 * length ns + 1

-- the longest line: `input` and eleven numbers
abbrev pub longest : ℕ
longest = 138

-- ---- a line into a target, at a place

-- the place past a text; refusal 9 where there is no room for so many bytes
abbrev pub text_answer : ℕ → List ℕ → ℕ → List ℕ → Result ℕ Refusal
text_answer most xs at text = cond (leb (at + most) (length xs)) (Ok (at + length text)) (Err ShortTarget)

-- the target after it: unchanged where there is no room
abbrev pub text_target : ℕ → List ℕ → ℕ → List ℕ → List ℕ
text_target most xs at text = cond (leb (at + most) (length xs)) (written xs at text) xs

-- where the longest line has to fit
abbrev pub line_answer : List ℕ → ℕ → List ℕ → Result ℕ Refusal
line_answer = text_answer longest

abbrev pub line_target : List ℕ → ℕ → List ℕ → List ℕ
line_target = text_target longest
