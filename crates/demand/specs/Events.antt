-- Lists of calls and their events, the last first: a refusal 13 among them; stepping back over them; what they say of a client.
use Rattle.std.specs.Prelude.{ℕ, zero, suc, ◌+◌, ◌-◌, Bool, true, false, cond, ◌||◌, List, [], ◌∷◌, length, get_or, take, eqb, ℤ, pos, ◌+ℤ◌}
use Rattle.varint.specs.Integers.{read_int}
use Rattle.varint.specs.declared.IntRead.{IntRead}
use Rattle.varint.specs.declared.IntRead.TheVariants.{Got, RunsOut}
use Rattle.item.specs.Said.{Said, gives, more, finish, refuses}
use Rattle.state.specs.State.{same_int}
use Rattle.state.specs.Reading.{
  Event,
  tick_start,
  tick_end,
  player_new,
  player_change,
  player_old,
  input,
  other,
}
use Rattle.state.specs.declared.Reader.{Reader}
use Rattle.calls.specs.Calls.{Call, call, next, Seen}
use Rattle.back.specs.Back.{Back, was, refused, step_back}

-- ---- calls of which one is refused 13

abbrev pub is13 : Said Event → Bool
is13 (gives e n) = false
is13 more = false
is13 (finish n) = false
is13 (refuses n vs) = eqb n 13

unfoldable pub meets13 : Reader → List Call → Bool
meets13 r [] = false
meets13 r (c ∷ cs) = is13 (call r c).said || meets13 (next r c) cs

-- ---- stepping back over events, in the order of the list, each step on the board that the last one left

abbrev pub back_one : Back → Seen → Back
back_one (was b) s = step_back b s.event s.ten s.former
back_one (refused r) s = refused r

unfoldable pub back_over : Back → List Seen → Back
back_over a [] = a
back_over a (s ∷ l) = back_over (back_one a s) l

-- ---- the events of players

-- a case for PlayerNew, with client and place; for PlayerChange and PlayerOld, with the client; for every other event
abbrev pub of_player : {A : Type 0} → (ℤ → ℤ → ℤ → A) → (ℤ → A) → (ℤ → A) → A → Event → A
of_player new change old none (player_new c x y) = new c x y
of_player new change old none (player_change c x y old-x old-y) = change c
of_player new change old none (player_old c x y) = old c
of_player new change old none (tick_start t) = none
of_player new change old none (tick_end t) = none
of_player new change old none (input c had) = none
of_player new change old none (other r) = none

abbrev pub is_new : Event → ℕ
is_new e = of_player (λ c x y. 1) (λ c. 0) (λ c. 0) 0 e

abbrev pub is_old : Event → ℕ
is_old e = of_player (λ c x y. 0) (λ c. 0) (λ c. 1) 0 e

unfoldable pub count : (Event → ℕ) → List Seen → ℕ
count p [] = 0
count p (s ∷ l) = p s.event + count p l

-- client c is present: its last PlayerNew or PlayerOld event is PlayerNew
abbrev pub present_after : ℤ → Event → Bool → Bool
present_after c e before = of_player (λ d x y. cond (same_int c d) true before) (λ d. before) (λ d. cond (same_int c d) false before) before e

unfoldable pub is_present : ℤ → List Seen → Bool
is_present c [] = false
is_present c (s ∷ l) = present_after c s.event (is_present c l)

-- dx, dy of a PlayerChange: the last two integers in the bytes used
abbrev pub integer_then : IntRead → (ℕ → List ℤ) → List ℤ
integer_then (Got z n remark) k = z ∷ k n
integer_then RunsOut k = []

unfoldable pub integers : ℕ → List ℕ → ℕ → List ℤ
integers zero s at = []
integers (suc n) s at = integer_then (read_int s at) (integers n s)

unfoldable pub last_two : List ℤ → ℤ × ℤ
last_two l = (get_or l (length l - 2) (pos 0), get_or l (length l - 1) (pos 0))

unfoldable pub difference : List ℕ → ℤ × ℤ
difference s = last_two (integers (length s) s 0)

-- client c's start, the x, y of its last PlayerNew event, plus the dx, dy of each PlayerChange since
abbrev pub sum_after : ℤ → Event → ℤ × ℤ → ℤ × ℤ → ℤ × ℤ
sum_after c e by before =
    of_player
    (λ d x y. cond (same_int c d) (x, y) before)
    (λ d. cond (same_int c d) (before.0 +ℤ by.0, before.1 +ℤ by.1) before)
    (λ d. before) before e

unfoldable pub sum_of : ℤ → List Seen → ℤ × ℤ
sum_of c [] = (pos 0, pos 0)
sum_of c (s ∷ l) = sum_after c s.event (difference (take s.used s.window)) (sum_of c l)

-- ---- the players present on a board: the player entries with mark 1

unfoldable pub players : List ℕ → ℕ
players [] = 0
players (m ∷ l) = cond (eqb m 1) 1 0 + players l
