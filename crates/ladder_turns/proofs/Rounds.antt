-- Rounds make the list of a body, in whatever pieces it came. Assumes nothing.
use Prim.Native.Nat.{ℕ, zero, suc, ◌+◌, ◌*◌}
use mathlib.Core.Path.{◌≡◌, refl, sym, ap, subst, ◌∙◌}
use mathlib.Core.Bool.{Bool, true, false, cond}
use mathlib.Core.List.{List, [], ◌∷◌, ◌++◌, append_assoc}
use native.Mathlib.Omega.{arith}
use lib.ListN.{length}
use lib.IntN.{ℤ}
use Rattle.kinds.specs.declared.Version.{Version}
use Rattle.state.specs.State.{empty_reader}
use Rattle.state.specs.declared.Reader.{Reader}
use Rattle.calls.specs.Calls.{Seen}
use Rattle.calls.specs.Along.{Halt, is_full, wants_more, finishes, is_refused, Run, all_of, calls, enough}
use Rattle.windows.specs.Windows.{window_of, is_short, is_last_window, ends, wants, run_by, ending_by, printed_from, printed_of}
use Rattle.windows.specs.Rounds.{Input, input_after, round_of, last_round, wants_read, rounds_by, all_pieces}
use Rattle.windows.specs.Telling.{Heard, telling, events_told}
use Rattle.windows.proofs.Rounds.{rounds_print}
use Rattle.windows.proofs.Telling.{events_told_law, run_told, not_full}
use Rattle.results.specs.Results.{ticks_after, finishes_in, no_results, keep, fits}
use Rattle.results.specs.declared.Results.{Results}
use Rattle.results.proofs.Ticks.{Open, open_now}
use Rattle.listing.specs.Listing.{whole_run, events_of, finishes_of, some_seen}
use Rattle.ladder_turns.specs.Ladder.{next_of, ends_as, Turned, window_run, end_of, ladder_list, ladder_last}
use Rattle.ladder_turns.specs.Rounds.{Climbed, on_next, list_rounds, RoundsList}
use Rattle.ladder_turns.proofs.Ticks.{GoesOn, run_follows}
use Rattle.ladder_turns.proofs.Climb.{climb, fits_before, climb_run}

-- ---- what follows a turn

-- room for all the events of a window
abbrev room : List ℕ → ℕ
room hand = 5 * length (window_of hand) + 4

abbrev Same : Climbed → ℤ → Results → List Heard → Type 0
Same c k l ts = fits (climb k l ts).list ≡ true → c ≡ climb k l ts

-- the turn after it, or how the reading ends
follow : (s : Bool) (h : Halt) (xs : List Seen) (t : Turned) (again : Bool → Climbed) (k : ℤ) (next : Bool → List Heard)
    → (GoesOn h → Same (again (wants s h)) k t.list (next (wants s h)))
    → Same (on_next t again (next_of s h (some_seen xs))) k t.list (ending_by telling s h (length xs) ++ cond (ends s h (length xs)) [] (next (wants s h)))
unfolding climb
follow s is_full xs t again k next f = f tt
follow true wants_more xs t again k next f = f tt
follow false wants_more [] t again k next f = λ _. refl
follow false wants_more (x ∷ xs) t again k next f = f tt
follow s finishes xs t again k next f = λ _. refl
follow s (is_refused j vs) xs t again k next f = λ _. refl

-- ---- a round

abbrev next_told : ℕ → Input → Run → Bool → List Heard
next_told n i run w = rounds_by telling n room run.reader (input_after w run.used i)

-- the run of a round is that of a turn
same_run : (r : Reader) (i : Input) → round_of room r i ≡ whole_run r (window_of i.hand) (is_last_window i.ended i.hand)
same_run r i =
    let w = window_of i.hand in
    let e : suc (room i.hand) ≡ enough w = omega arith in
    ap (λ (n : ℕ). calls n r w (is_last_window i.ended i.hand)) e

-- what a round tells: its events, and what is told behind them
round_told : (n : ℕ) (r : Reader) (i : Input) → let run = whole_run r (window_of i.hand) (is_last_window i.ended i.hand) in
    let s = is_short i.hand in
    rounds_by telling (suc n) room r i
    ≡ events_told run.seen
    ++ (ending_by telling s run.halt (length run.seen) ++ cond (ends s run.halt (length run.seen)) [] (next_told n i run (wants s run.halt)))
unfolding rounds_by
round_told n r i =
    let run = whole_run r (window_of i.hand) (is_last_window i.ended i.hand) in
    let s = is_short i.hand in
    let rest : Run → List Heard = λ x. cond (last_round i x) [] (next_told n i x (wants_read i x)) in
    ap (λ (x : Run). run_by telling s x ++ rest x) (same_run r i) ∙ ap (λ (l : List Heard). l ++ rest run) (run_told s run)
    ∙ append_assoc (events_told run.seen) (ending_by telling s run.halt (length run.seen)) (rest run)

module _ (n : ℕ) (k : ℤ) (l : Results) (r : Reader) (i : Input) (o : Open k r.scalars) where
  abbrev run : Run
  run = whole_run r (window_of i.hand) (is_last_window i.ended i.hand)

  abbrev after : Results
  after = keep l (finishes_of r run)

  abbrev tick : ℤ
  tick = ticks_after k (events_of run.seen)

  -- the list takes the same finishes, whichever open tick it is
  same_list : keep l (finishes_in k (events_of run.seen)) ≡ after
  same_list =
      ap (keep l)
      (run_follows (all_of (is_last_window i.ended i.hand)) (enough (window_of i.hand)) k r.scalars.tick r (window_of i.hand) o (open_now r.scalars)).same

  abbrev turned : Turned
  turned =
      record { list = after; reader = run.reader; used = run.used; next = next_of (is_short i.hand) run.halt (some_seen run.seen) }

  abbrev again : Turned → Bool → Climbed
  again t w = list_rounds n t.list t.reader (input_after w t.used i)

  -- a turn whose count fits
  pub fitting : fits after ≡ true → list_rounds (suc n) l r i ≡ on_next turned (again turned) turned.next
  unfolding list_rounds
  fitting h = rw h

  pub told_behind : List Heard
  told_behind =
      let s = is_short i.hand in
      ending_by telling s run.halt (length run.seen) ++ cond (ends s run.halt (length run.seen)) [] (next_told n i run (wants s run.halt))

  pub left_open : GoesOn run.halt → Open tick run.reader.scalars
  left_open =
      (run_follows (all_of (is_last_window i.ended i.hand)) (enough (window_of i.hand)) k r.scalars.tick r (window_of i.hand) o (open_now r.scalars)).left

  pub one_round : (GoesOn run.halt → Same (again turned (wants (is_short i.hand) run.halt)) tick after (next_told n i run (wants (is_short i.hand) run.halt)))
      → Same (list_rounds (suc n) l r i) k l (rounds_by telling (suc n) room r i)
  unfolding told_behind
  one_round f h =
      let told : climb k l (rounds_by telling (suc n) room r i) ≡ climb tick after told_behind =
      ap (climb k l) (round_told n r i) ∙ climb_run k l run.seen told_behind ∙ ap (λ (m : Results). climb tick m told_behind) same_list in
      let g : fits (climb tick after told_behind).list ≡ true = subst (λ (c : Climbed). fits c.list ≡ true) told h in
      fitting (fits_before tick after told_behind g)
      ∙ follow (is_short i.hand) run.halt run.seen turned (again turned) tick (next_told n i run) f g
      ∙ sym told

rounds_climb : (n : ℕ) (k : ℤ) (l : Results) (r : Reader) (i : Input) → Open k r.scalars
    → Same (list_rounds n l r i) k l (rounds_by telling n room r i)
unfolding list_rounds rounds_by climb
rounds_climb zero k l r i o h = refl
rounds_climb (suc n) k l r i o h =
    one_round n k l r i o (λ g. rounds_climb n (tick n k l r i o) (after n k l r i o) _ _ (left_open n k l r i o g)) h

-- ---- the whole body

-- what is told of a body makes its list and its end
ends_so : (h : Halt) (k : ℤ) (l : Results) → (h ≡ is_full → ⊥) → climb k l (ending_by telling false h 0) ≡ record { list = l; next = ends_as (end_of h) }
unfolding climb
ends_so is_full k l f = absurd (f refl)
ends_so wants_more k l f = refl
ends_so finishes k l f = refl
ends_so (is_refused j vs) k l f = refl

body_climb : (v : Version) (body : List ℕ)
    → climb (empty_reader v).scalars.tick no_results (printed_of telling v body) ≡ record { list = ladder_list v body; next = ends_as (ladder_last v body) }
unfolding printed_from
body_climb v body =
    let run = window_run v body in
    let k = (empty_reader v).scalars.tick in
    let ending = ending_by telling false run.halt 0 in
    ap (λ (l : List Heard). climb k no_results (l ++ ending)) (events_told_law run.seen) ∙ climb_run k no_results run.seen ending
    ∙ ends_so run.halt (ticks_after k (events_of run.seen)) (ladder_list v body) (not_full (empty_reader v) body)

pub rounds_list : RoundsList
rounds_list v n hand pieces h f =
    let i : Input = record { hand = hand; ended = false; pieces = pieces } in
    let r = empty_reader v in
    let k = r.scalars.tick in
    let body = hand ++ all_pieces pieces in
    let told : climb k no_results (rounds_by telling n room r i) ≡ record { list = ladder_list v body; next = ends_as (ladder_last v body) } =
    ap (climb k no_results) (rounds_print telling v n room hand pieces h) ∙ body_climb v body in
    rounds_climb n k no_results r i (open_now r.scalars) (subst (λ (c : Climbed). fits c.list ≡ true) (sym told) f) ∙ told
