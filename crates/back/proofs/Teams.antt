-- A step back over an event is one over its undo. Assumes nothing.
use Rattle.std.specs.Prelude.{Option, Some}
use mathlib.Core.Path.{◌≡◌, refl, ap}
use mathlib.Core.Bool.{cond}
use mathlib.Core.List.{List}
use lib.IntN.{ℤ}
use Rattle.refusal.specs.declared.Refusal.TheVariants.{BadState, NotLast}
use Rattle.fields.specs.Views.{numbers}
use Rattle.kinds.specs.Magic.{same_bytes}
use Rattle.extensions.specs.Extensions.{all, id_at, extension_row, payload_at}
use Rattle.state.specs.Reading.{
  Event,
  tick_start,
  tick_end,
  player_new,
  player_change,
  player_old,
  input,
  other,
}
use Rattle.teams.specs.Teams.{Joining, joins, nobody, is_player_team, joining_in}
use Rattle.back.specs.Board.{board}
use Rattle.back.specs.Back.{was, in_tick}
use Rattle.back.specs.TeamBoard.{
  TeamBack,
  refused,
  beside,
  fits_teams,
  teams_before,
  good_team_board,
  take_off_team,
  team_step_back,
}
use Rattle.back.specs.Undo.{undo_joining, undo_of, player_team, undone, former_in}
use Rattle.back.specs.declared.TeamBoard.{TeamBoard}

-- what a PlayerTeam record says
pub player_team_joins : (c n : ℤ) → joining_in (player_team c n) ≡ joins c n
unfolding is_player_team same_bytes id_at payload_at extension_row all numbers
player_team_joins c n = refl

module _ (ten former : List ℤ) (m : Option ℤ) (b : TeamBoard) where
  -- a record taken off, of what it says
  abbrev record_off : Joining → TeamBack
  record_off j =
      cond (fits_teams j b.teams)
      (beside (teams_before j m b.teams) (in_tick b.board.tick (λ t. was (board (Some t) b.board.entries))))
      (refused NotLast)

  record_undone : (j : Joining) → take_off_team (undone (undo_joining j m)) ten former (former_in (undo_joining j m)) b ≡ record_off j
  unfolding take_off_team
  record_undone (joins c n) = ap record_off (player_team_joins c n)
  record_undone nobody = refl

  taken_undone : (e : Event) → take_off_team (undone (undo_of e m)) ten former (former_in (undo_of e m)) b ≡ take_off_team e ten former m b
  unfolding take_off_team
  taken_undone (tick_start t) = refl
  taken_undone (tick_end t) = refl
  taken_undone (player_new c x y) = refl
  taken_undone (player_change c x y old-x old-y) = refl
  taken_undone (player_old c x y) = refl
  taken_undone (input c had) = refl
  taken_undone (other r) = record_undone (joining_in r)

pub team_undone : (e : Event) (ten former : List ℤ) (m : Option ℤ) (b : TeamBoard)
    → take_off_team (undone (undo_of e m)) ten former (former_in (undo_of e m)) b ≡ take_off_team e ten former m b
team_undone e ten former m b = taken_undone ten former m b e

pub step_undone : (e : Event) (ten former : List ℤ) (m : Option ℤ) (b : TeamBoard)
    → team_step_back b (undone (undo_of e m)) ten former (former_in (undo_of e m)) ≡ team_step_back b e ten former m
unfolding team_step_back
step_undone e ten former m b = ap (λ (x : TeamBack). cond (good_team_board b) x (refused BadState)) (team_undone e ten former m b)
