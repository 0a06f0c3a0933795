-- The reel: the last 512 events with what stepping back needs. docs/FORMAT.md, "The reel".
use Rattle.std.specs.Prelude.{ℕ, zero, suc, ◌+◌, min, Bool, true, false, cond, ◌&&◌, List, [], ◌∷◌, get_or, ltb, leb, ℤ, pos, negsuc, Option, Some, None}
use Rattle.refusal.specs.declared.Refusal.TheVariants.{BadState}
use Rattle.fields.specs.Views.{zeros}
use Rattle.state.specs.State.{same_int, ten_of, put_ten}
use Rattle.state.specs.Reading.{Event}
use Rattle.teams.specs.Teams.{mark_for, number_for}
use Rattle.back.specs.Undo.{undo_of}
use Rattle.back.specs.declared.Undo.{Undo}
use Rattle.back.specs.declared.Undo.TheVariants.{Start, End, New, Change, Old, Input, Team, Nothing}
use Rattle.reel.specs.declared.Counts.{Counts}
use Rattle.reel.specs.declared.Reel.{Reel}
use Rattle.reel.specs.declared.KeepAnswer.TheVariants as answers
use Rattle.reel.specs.declared.KeptReel.{KeptReel}

-- ---- a row: what a step back has to know of an event

pub record Row : Type 0 where
  pub undo : Undo
  pub ten : List ℤ
  pub former : List ℤ

-- numbers that only an input has
abbrev pub of_input : {A : Type 0} → Undo → A → A → A
of_input (Input c had) its none = its
of_input (Start t) its none = none
of_input (End t) its none = none
of_input (New c x y) its none = none
of_input (Change c x y old-x old-y) its none = none
of_input (Old c x y) its none = none
of_input (Team c n m) its none = none
of_input Nothing its none = none

abbrev pub row : Undo → List ℤ → List ℤ → Row
row u ten former = record { undo = u; ten = of_input u ten []; former = of_input u former [] }

-- ---- the ten numbers of a row

abbrev pub ten : ℕ → ℤ → ℤ → ℤ → ℤ → ℤ → List ℤ
ten k a b c d e = pos k ∷ a ∷ b ∷ c ∷ d ∷ e ∷ pos 0 ∷ pos 0 ∷ pos 0 ∷ pos 0 ∷ []

abbrev pub flag : Bool → ℤ
flag true = pos 1
flag false = pos 0

-- the event's number, as in a row of many events, then its own numbers and zeros
abbrev pub numbers_of : Undo → List ℤ
numbers_of (Start t) = ten 1 t (pos 0) (pos 0) (pos 0) (pos 0)
numbers_of (End t) = ten 2 t (pos 0) (pos 0) (pos 0) (pos 0)
numbers_of (New c x y) = ten 3 c x y (pos 0) (pos 0)
numbers_of (Change c x y old-x old-y) = ten 4 c x y old-x old-y
numbers_of (Old c x y) = ten 5 c x y (pos 0) (pos 0)
numbers_of (Input c had) = ten 6 c (flag had) (pos 0) (pos 0) (pos 0)
numbers_of (Team c n m) = ten 8 c n (mark_for m) (number_for m) (pos 0)
numbers_of Nothing = ten 7 (pos 0) (pos 0) (pos 0) (pos 0) (pos 0)

-- a row that is no event's is taken for TickEnd of -1, which fits no board
abbrev pub no_event : Undo
no_event = End (negsuc 0)

abbrev pub is_number : ℕ → ℤ → Bool
is_number n z = same_int z (pos n)

abbrev pub input_row : ℤ → ℤ → Undo
input_row c had = cond (is_number 1 had) (Input c true) (cond (is_number 0 had) (Input c false) no_event)

abbrev pub team_row : ℤ → ℤ → ℤ → ℤ → Undo
team_row c n mark number = cond (is_number 1 mark) (Team c n (Some number)) (cond (is_number 0 mark) (Team c n None) no_event)

-- what ten numbers tell, whoever wrote them: those that an event doesn't have are not looked at
unfoldable pub undo_in : List ℤ → Undo
undo_in ns =
    let k = get_or ns 0 (pos 0) in
    let a = get_or ns 1 (pos 0) in
    let b = get_or ns 2 (pos 0) in
    let c = get_or ns 3 (pos 0) in
    cond (is_number 1 k) (Start a)
    (cond (is_number 2 k) (End a)
    (cond (is_number 3 k) (New a b c)
    (cond (is_number 4 k) (Change a b c (get_or ns 4 (pos 0)) (get_or ns 5 (pos 0)))
    (cond (is_number 5 k) (Old a b c)
    (cond (is_number 6 k) (input_row a b)
    (cond (is_number 7 k) Nothing
    (cond (is_number 8 k) (team_row a b c (get_or ns 4 (pos 0))) no_event)))))))

-- ---- the reel: 512 places, one after the other, the first after the last

abbrev pub place_before : ℕ → ℕ
place_before zero = 511
place_before (suc p) = p

abbrev pub place_after : ℕ → ℕ
place_after p = cond (ltb p 511) (p + 1) 0

abbrev pub counts_of : ℕ → ℕ → Counts
counts_of next count = record { next = next; count = count }

-- the next place and how many rows are kept; the numbers of the rows, the ten numbers of inputs and the former ten, ten for each place
abbrev pub reel_of : Counts → List ℤ → List ℤ → List ℤ → Reel
reel_of k rows inputs formers = record { counts = k; rows = rows; inputs = inputs; formers = formers }

-- counts that pass the room are no good reel's (17)
abbrev pub good_counts : Counts → Bool
good_counts k = ltb k.next 512 && leb k.count 512

abbrev pub good_reel : Reel → Bool
good_reel l = good_counts l.counts

unfoldable pub row_at : Reel → ℕ → Row
row_at l p = row (undo_in (ten_of l.rows p)) (ten_of l.inputs p) (ten_of l.formers p)

-- the n rows before a place, the newest first
unfoldable pub rows_before : Reel → ℕ → ℕ → List Row
rows_before l zero p = []
rows_before l (suc n) p = row_at l (place_before p) ∷ rows_before l n (place_before p)

-- what a reel holds, the newest first
unfoldable pub rows_of : Reel → List Row
rows_of l = rows_before l l.counts.count l.counts.next

unfoldable pub empty_reel : Reel
empty_reel = reel_of (counts_of 0 0) (zeros 5120) (zeros 5120) (zeros 5120)

-- ---- keeping an event

-- where all places are taken, the oldest row goes
abbrev pub one_more : Counts → Counts
one_more k = counts_of (place_after k.next) (min (k.count + 1) 512)

-- a row in its place; the ten numbers of another event than an input stay what they were
unfoldable pub keep_row : Reel → Undo → List ℤ → List ℤ → Reel
keep_row l u ten former =
    let p = l.counts.next in
    reel_of (one_more l.counts) (put_ten l.rows p (numbers_of u)) (of_input u (put_ten l.inputs p ten) l.inputs)
    (of_input u (put_ten l.formers p former) l.formers)

-- an event in the next place; m is the former team beside a PlayerTeam
abbrev pub keep : Reel → Event → List ℤ → List ℤ → Option ℤ → Reel
keep l e ten former m = keep_row l (undo_of e m) ten former

-- what a call hands back: a bad reel is refused 17, and nothing changes
unfoldable pub keeping : Reel → Event → List ℤ → List ℤ → Option ℤ → KeptReel
keeping l e ten former m =
    cond (good_reel l) (record { answer = answers.Kept; reel = keep l e ten former m })
    (record { answer = answers.Refused BadState; reel = l })
