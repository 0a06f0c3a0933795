-- Rows of numbers that tell of events: eight numbers for each, and twenty for an input. docs/FORMAT.md, "Many events in one call".
use Rattle.std.specs.Prelude.{ℕ, suc, ◌+◌, ◌*◌, ◌/◌, min, Bool, true, false, List, [], ◌∷◌, ◌++◌, length, take, drop, ℤ, pos, Option, Some, None}
use Rattle.num.specs.Wrap.{wrap32}
use Rattle.packer.specs.declared.Part.{Part}
use Rattle.item.specs.Records.{Content}
use Rattle.item.specs.Contents.{cid_of}
use Rattle.item.specs.Numbers.{tag_number}
use Rattle.state.specs.Reading.{Event, tick_start, tick_end, player_new, player_change, player_old, input, other}
use Rattle.teams.specs.Teams.{mark_for, number_for, on_joining, joining_in}
use Rattle.team_calls.specs.Lists.{TeamSeen}

-- ---- one event

abbrev pub flag : Bool → ℤ
flag true = pos 1
flag false = pos 0

abbrev pub client_flag : Option ℤ → ℤ
client_flag (Some c) = pos 1
client_flag None = pos 0

abbrev pub client_or0 : Option ℤ → ℤ
client_or0 (Some c) = c
client_or0 None = pos 0

abbrev pub eight : ℕ → ℤ → ℤ → ℤ → ℤ → ℤ → ℤ → List ℤ
eight event used a b c d e = pos event ∷ used ∷ a ∷ b ∷ c ∷ d ∷ e ∷ pos 0 ∷ []

-- of a record that changes no entry and no team
abbrev pub plain_row : Content Part → ℤ → ℤ → List ℤ
plain_row r n p = eight 7 n (tag_number r.tag) (client_flag (cid_of r)) (client_or0 (cid_of r)) p (pos 0)

-- the event's number, the bytes used (modulo 2^32, signed), then the event's own numbers and zeros. Of a record: its kind, whether it
-- has a client, the client, whether its kind was pending; of a PlayerTeam (number 8): the client, its team, whether it had one before, the
-- former one, whether its kind was pending
abbrev pub event_row : Event → Option ℤ → ℤ → ℤ → List ℤ
event_row (tick_start t) m n p = eight 1 n t (pos 0) (pos 0) (pos 0) (pos 0)
event_row (tick_end t) m n p = eight 2 n t (pos 0) (pos 0) (pos 0) (pos 0)
event_row (player_new c x y) m n p = eight 3 n c x y (pos 0) (pos 0)
event_row (player_change c x y old-x old-y) m n p = eight 4 n c x y old-x old-y
event_row (player_old c x y) m n p = eight 5 n c x y (pos 0) (pos 0)
event_row (input c former) m n p = eight 6 n c (flag former) (pos 0) (pos 0) (pos 0)
event_row (other r) m n p =
    on_joining (λ c t. eight 8 n c t (mark_for m) (number_for m) p) (plain_row r n p) (joining_in r)

unfoldable pub row_of : TeamSeen → List ℤ
row_of x = event_row x.seen.event x.team (wrap32 (pos x.seen.used)) (flag x.seen.pending)

-- the ten numbers of an input and the former ten; another event has none
abbrev pub event_tens : Event → List ℤ → List ℤ → List ℤ
event_tens (tick_start t) ten former = []
event_tens (tick_end t) ten former = []
event_tens (player_new c x y) ten former = []
event_tens (player_change c x y old-x old-y) ten former = []
event_tens (player_old c x y) ten former = []
event_tens (input c held) ten former = ten ++ former
event_tens (other r) ten former = []

unfoldable pub tens_of : TeamSeen → List ℤ
tens_of x = event_tens x.seen.event x.seen.ten x.seen.former

-- ---- events one behind the other

-- numbers in their place of a lent memory
unfoldable pub put : List ℤ → ℕ → List ℤ → List ℤ
put mem at ns = take at mem ++ (ns ++ drop (at + length ns) mem)

-- the row of event i stands at 8 i, its twenty numbers, if it is an input, at 20 i; the rest of the memory stays
unfoldable pub rows_from : ℕ → List TeamSeen → List ℤ → List ℤ
rows_from i [] mem = mem
rows_from i (x ∷ xs) mem = rows_from (suc i) xs (put mem (8 * i) (row_of x))

unfoldable pub tens_from : ℕ → List TeamSeen → List ℤ → List ℤ
tens_from i [] mem = mem
tens_from i (x ∷ xs) mem = tens_from (suc i) xs (put mem (20 * i) (tens_of x))

-- how many events there is room for
abbrev pub room : List ℤ → List ℤ → ℕ
room rows tens = min (length rows / 8) (length tens / 20)
