-- A results list: of each client 0 to 127 its finish with the lowest time. docs/FORMAT.md, "The results list".
use Rattle.std.specs.Prelude.{ℕ, zero, suc, ◌+◌, ◌≡◌, Bool, true, false, cond, List, [], ◌∷◌, ◌++◌, ltb, leb, eqb, get_or, set, replicate, ℤ, pos, negsuc, Result, Ok, Err}
use Rattle.std.specs.Int.Signed.{lt_z}
use Rattle.refusal.specs.declared.Refusal.{Refusal}
use Rattle.refusal.specs.declared.Refusal.TheVariants.{BadState}
use Rattle.packer.specs.declared.Part.{Part}
use Rattle.fields.specs.Fields.{num, on_num}
use Rattle.fields.specs.Views.{zeros}
use Rattle.kinds.specs.Magic.{same_bytes}
use Rattle.extensions.specs.Extensions.{id_at}
use Rattle.extensions.specs.declared.Extension.{Extension}
use Rattle.extensions.specs.declared.Extension.TheVariants.{PlayerFinish}
use Rattle.item.specs.Records.{Content}
use Rattle.item.specs.Contents.{by_tag}
use Rattle.state.specs.State.{same_int}
use Rattle.state.specs.Reading.{Event, tick_start, tick_end, player_new, player_change, player_old, input, other}
use Rattle.results.specs.declared.Results.{Results}

-- ---- finishes

-- a client's finish: its time, and the tick that is open at it
pub record Finish : Type 0 where
  pub client : ℤ
  pub time : ℤ
  pub tick : ℤ

abbrev pub finish : ℤ → ℤ → ℤ → Finish
finish c t k = record { client = c; time = t; tick = k }

-- the extension with PlayerFinish's identifier
unfoldable pub is_player_finish : Extension → Bool
is_player_finish e = same_bytes (id_at e) (id_at PlayerFinish)

-- a record's number at a place
abbrev pub number_at : ℕ → Content Part → ℤ
number_at i r = on_num (pos 0) (λ z. z) (get_or r.values i (num (pos 0)))

-- a PlayerFinish record (client, time), in tick k
abbrev pub finish_in : ℤ → Content Part → List Finish
finish_in k r = cond (by_tag (λ kind. false) is_player_finish false r.tag) (finish (number_at 0 r) (number_at 1 r) k ∷ []) []

-- the finish that an event is, if tick k is open
abbrev pub finish_of : ℤ → Event → List Finish
finish_of k (tick_start t) = []
finish_of k (tick_end t) = []
finish_of k (player_new c x y) = []
finish_of k (player_change c x y old-x old-y) = []
finish_of k (player_old c x y) = []
finish_of k (input c former) = []
finish_of k (other r) = finish_in k r

-- the tick that is open behind an event
abbrev pub tick_after : ℤ → Event → ℤ
tick_after k (tick_start t) = t
tick_after k (tick_end t) = k
tick_after k (player_new c x y) = k
tick_after k (player_change c x y old-x old-y) = k
tick_after k (player_old c x y) = k
tick_after k (input c former) = k
tick_after k (other r) = k

-- the tick that is open behind events
unfoldable pub ticks_after : ℤ → List Event → ℤ
ticks_after k [] = k
ticks_after k (e ∷ es) = ticks_after (tick_after k e) es

-- the finishes among events, the first first
unfoldable pub finishes_in : ℤ → List Event → List Finish
finishes_in k [] = []
finishes_in k (e ∷ es) = finish_of k e ++ finishes_in (tick_after k e) es

-- ---- the lowest time of each client

-- a finish takes the place of a kept one before it if its time is lower: of equal times the earlier stays
abbrev pub is_lower : List Finish → Finish → Bool
is_lower [] f = true
is_lower (g ∷ gs) f = lt_z f.time g.time

abbrev pub lower : List Finish → Finish → List Finish
lower kept f = cond (is_lower kept f) (f ∷ []) kept

unfoldable pub best_after : List Finish → ℕ → List Finish → List Finish
best_after kept c [] = kept
best_after kept c (f ∷ fs) = best_after (cond (same_int f.client (pos c)) (lower kept f) kept) c fs

-- client c's row, if it finished
abbrev pub best : ℕ → List Finish → List Finish
best c fs = best_after [] c fs

-- the rows of the clients below n
unfoldable pub bests_below : ℕ → List Finish → List Finish
bests_below zero fs = []
bests_below (suc n) fs = bests_below n fs ++ best n fs

-- clients 0 to 127 are listed
abbrev pub is_listed : ℤ → Bool
is_listed (pos c) = ltb c 128
is_listed (negsuc c) = false

-- the finishes of all others are counted
unfoldable pub others_in : List Finish → ℕ
others_in [] = 0
others_in (f ∷ fs) = cond (is_listed f.client) 0 1 + others_in fs

-- ---- a list that takes one finish after the other: a mark 1, a time and a tick for each client that has a row, and the count of others

abbrev pub results_with : List ℕ → List ℤ → List ℤ → ℕ → Results
results_with marks times ticks n = record { marks = marks; times = times; ticks = ticks; others = n }

unfoldable pub no_results : Results
no_results = results_with (replicate {A = ℕ} 128 0) (zeros 128) (zeros 128) 0

-- client c's row, if it has one
abbrev pub row_of : Results → ℕ → List Finish
row_of l c =
    cond (eqb (get_or l.marks c 0) 1) (finish (pos c) (get_or l.times c (pos 0)) (get_or l.ticks c (pos 0)) ∷ []) []

-- the rows of the clients below n
unfoldable pub rows_below : ℕ → Results → List Finish
rows_below zero l = []
rows_below (suc n) l = rows_below n l ++ row_of l n

abbrev pub with_row : Results → ℕ → Finish → Results
with_row l c f = results_with (set l.marks c 1) (set l.times c f.time) (set l.ticks c f.tick) l.others

abbrev pub one_more : Results → Results
one_more l = results_with l.marks l.times l.ticks (l.others + 1)

abbrev pub keep_at : Results → ℤ → Finish → Results
keep_at l (pos c) f = cond (ltb c 128) (cond (is_lower (row_of l c) f) (with_row l c f) l) (one_more l)
keep_at l (negsuc c) f = one_more l

unfoldable pub keep : Results → List Finish → Results
keep l [] = l
keep l (f ∷ fs) = keep (keep_at l f.client f) fs

-- the count goes to 2^64 - 1: a list whose count can't rise is refused 17, and nothing of it changes
abbrev pub fits : Results → Bool
fits l = leb l.others 18446744073709551615

abbrev pub kept : Results → List Finish → Results
kept l fs = cond (fits (keep l fs)) (keep l fs) l

-- finishes into a list whose arrays are lent
pub record Keeps (l : Results) (fs : List Finish) (r : Result ℕ Refusal) (marks₁ : List ℕ) (times₁ ticks₁ : List ℤ) : Type 0 where
  pub said : r ≡ cond (fits (keep l fs)) (Ok (keep l fs).others) (Err BadState)
  pub marks : marks₁ ≡ (kept l fs).marks
  pub times : times₁ ≡ (kept l fs).times
  pub ticks : ticks₁ ≡ (kept l fs).ticks
