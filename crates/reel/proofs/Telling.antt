-- The ten numbers of a row tell what was kept. Assumes nothing.
use Rattle.std.specs.Prelude.{Some, None}
use mathlib.Core.Path.{◌≡◌, refl}
use mathlib.Core.Bool.{true, false}
use lib.ListN.{length}
use Rattle.back.specs.declared.Undo.{Undo}
use Rattle.back.specs.declared.Undo.TheVariants.{Start, End, New, Change, Old, Input, Team, Nothing}
use Rattle.reel.specs.Reel.{numbers_of, undo_in}

pub undo_told : (u : Undo) → undo_in (numbers_of u) ≡ u
unfolding undo_in
undo_told (Start t) = refl
undo_told (End t) = refl
undo_told (New c x y) = refl
undo_told (Change c x y old-x old-y) = refl
undo_told (Old c x y) = refl
undo_told (Input c true) = refl
undo_told (Input c false) = refl
undo_told (Team c n (Some m)) = refl
undo_told (Team c n None) = refl
undo_told Nothing = refl

pub ten_numbers : (u : Undo) → length (numbers_of u) ≡ 10
ten_numbers (Start t) = refl
ten_numbers (End t) = refl
ten_numbers (New c x y) = refl
ten_numbers (Change c x y old-x old-y) = refl
ten_numbers (Old c x y) = refl
ten_numbers (Input c had) = refl
ten_numbers (Team c n m) = refl
ten_numbers Nothing = refl
