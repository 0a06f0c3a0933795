-- A step back is handed back whole from what was taken off: a refusal of an event is 19. The test of the board. Assumes nothing.
use Rattle.std.specs.Prelude.{Option, Some, None}
use Prim.Native.Nat.{ℕ}
use mathlib.Core.Path.{◌≡◌, refl}
use mathlib.Core.Bool.{Bool, true, false, not, cond, ◌&&◌}
use mathlib.Core.List.{List}
use lib.Dec.{ltb}
use lib.IntN.{ℤ, pos, negsuc}
use lib.Signed.{non_neg}
use Rattle.refusal.specs.declared.Refusal.TheVariants.{BadState, NotLast}
use Rattle.state.specs.State.{same_int, present, x_of, y_of, with_player, holds, ten_of, good_entries}
use Rattle.state.specs.Reading.{
  Event,
  tick_start,
  tick_end,
  player_new,
  player_change,
  player_old,
  input,
  other,
}
use Rattle.state.specs.declared.Entries.{Entries}
use Rattle.teams.specs.Teams.{good_teams, joining_of}
use Rattle.back.specs.Board.{board, good_tick, good_board}
use Rattle.back.specs.Back.{
  Back,
  only_if,
  same_all,
  un_present,
  un_old,
  former_input,
  un_input,
  take_off,
}
use Rattle.back.specs.TeamBoard.{
  TeamBack,
  refused,
  beside,
  fits_teams,
  teams_before,
  good_team_board,
  take_off_team,
  team_step_back,
  stepped_from,
}
use Rattle.back.specs.declared.Board.{Board}
use Rattle.back.specs.declared.TeamBoard.{TeamBoard}
use Rattle.back.specs.declared.BackAnswer.TheVariants as answers
use Rattle.back.specs.declared.SteppedBack.{SteppedBack}
use Rattle.taking.specs.Taking.{TeamTaken, team_taken_from}

-- what the call hands back of what was taken off
abbrev pub handed : TeamTaken → SteppedBack
handed t = record { answer = cond t.fits answers.Back (answers.Refused NotLast); board = t.board }

-- ---- the two ways to say what is handed back are one

abbrev One : TeamBoard → TeamBack → Type 0
One given a = handed (team_taken_from given a) ≡ stepped_from given a

-- l are the teams that are left
module _ (given : TeamBoard) (l : List ℤ) where
  abbrev Whole : Back → Type 0
  Whole a = One given (beside l a)

  tested : (t : Bool) (before : Board) → Whole (only_if t before)
  tested true before = refl
  tested false before = refl

  module _ (t : ℤ) (e : Entries) where
    whole_present : (z x y : ℤ) (mark : ℕ) (old-x old-y : ℤ) → Whole (un_present t e z x y mark old-x old-y)
    whole_present (pos c) x y mark old-x old-y =
        tested (present e c && (same_int (x_of e c) x && same_int (y_of e c) y)) (board (Some t) (with_player e c mark old-x old-y))
    whole_present (negsuc c) x y mark old-x old-y = refl

    whole_old : (z x y : ℤ) → Whole (un_old t e z x y)
    whole_old (pos c) x y = tested (ltb c 128 && not (present e c)) (board (Some t) (with_player e c 1 x y))
    whole_old (negsuc c) x y = refl

    whole_input : (z : ℤ) (had : Bool) (ten former : List ℤ) → Whole (un_input t e z had ten former)
    whole_input (pos c) had ten former = tested (holds e c && same_all (ten_of e.inputs c) ten) (board (Some t) (former_input e c had former))
    whole_input (negsuc c) had ten former = refl

  whole : (u : Event) (ten former : List ℤ) (k : Option ℤ) (e : Entries) → Whole (take_off u ten former k e)
  whole (tick_start u) ten former (Some t) e = tested (same_int t u) (board None e)
  whole (tick_start u) ten former None e = refl
  whole (tick_end u) ten former (Some t) e = refl
  whole (tick_end u) ten former None e = tested (non_neg u) (board (Some u) e)
  whole (player_new c x y) ten former (Some t) e = whole_present t e c x y 0 (pos 0) (pos 0)
  whole (player_new c x y) ten former None e = refl
  whole (player_change c x y old-x old-y) ten former (Some t) e = whole_present t e c x y 1 old-x old-y
  whole (player_change c x y old-x old-y) ten former None e = refl
  whole (player_old c x y) ten former (Some t) e = whole_old t e c x y
  whole (player_old c x y) ten former None e = refl
  whole (input c had) ten former (Some t) e = whole_input t e c had ten former
  whole (input c had) ten former None e = refl
  whole (other r) ten former (Some t) e = refl
  whole (other r) ten former None e = refl

one_of : (given : TeamBoard) (fits : Bool) (a : TeamBack) → One given a → One given (cond fits a (refused NotLast))
one_of given true a p = p
one_of given false a p = refl

-- ---- the whole step: b is the board, g the flag of its test

pub good_is : (b : TeamBoard) (t e s g h : Bool)
    → t ≡ good_tick b.board.tick → e ≡ good_entries b.board.entries → s ≡ (t && e)
    → h ≡ good_teams b.teams → g ≡ (s && h)
    → g ≡ good_team_board b
unfolding good_team_board good_board
good_is b t e s g h p q r o w = rw (w, r, o, p, q)

module _ (b : TeamBoard) (u : Event) (ten former : List ℤ) (m : Option ℤ) (g : Bool) (q : g ≡ good_team_board b) where
  pub bad : g ≡ false → refused BadState ≡ team_step_back b u ten former m
  unfolding team_step_back
  bad n = rw (← q, n)

  taken_one : One b (take_off_team u ten former m b)
  unfolding take_off_team
  taken_one =
      one_of b (fits_teams (joining_of u) b.teams)
      (beside (teams_before (joining_of u) m b.teams) (take_off u ten former b.board.tick b.board.entries))
      (whole b (teams_before (joining_of u) m b.teams) u ten former b.board.tick b.board.entries)

  pub good : g ≡ true → handed (team_taken_from b (take_off_team u ten former m b)) ≡ stepped_from b (team_step_back b u ten former m)
  unfolding team_step_back
  good n = rw (← q, n) taken_one
