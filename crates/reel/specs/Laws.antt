-- What holds of a reel, as statements; proofs/Theorems.antt proves each.
use Rattle.std.specs.Prelude.{◌≡◌, true, List, [], ◌∷◌, length, take, ℤ, Option}
use Rattle.state.specs.Reading.{Event}
use Rattle.back.specs.Undo.{undo_of}
use Rattle.back.specs.declared.Undo.{Undo}
use Rattle.reel.specs.Reel.{row, numbers_of, undo_in, good_reel, rows_of, empty_reel, keep}
use Rattle.reel.specs.declared.Reel.{Reel}

-- the ten numbers of a row tell what was kept
abbrev pub RowsTell : Type 0
RowsTell = (u : Undo) → undo_in (numbers_of u) ≡ u

-- a reel that is not refused 17, with the lengths that its arrays have
pub record SoundReel (l : Reel) : Type 0 where
  pub good : good_reel l ≡ true
  pub rows : length l.rows ≡ 5120
  pub inputs : length l.inputs ≡ 5120
  pub formers : length l.formers ≡ 5120

-- after an event it holds that event and the newest of what it held, 512 at most; where it is an input, ten numbers stand beside it
pub record KeepsEvent (l : Reel) (e : Event) (ten former : List ℤ) (m : Option ℤ) : Type 0 where
  pub sound : SoundReel (keep l e ten former m)
  pub holds : rows_of (keep l e ten former m) ≡ take 512 (row (undo_of e m) ten former ∷ rows_of l)

abbrev pub Keeps : Type 0
Keeps =
    (l : Reel) (e : Event) (ten former : List ℤ) (m : Option ℤ) → SoundReel l → length ten ≡ 10 → length former ≡ 10
    → KeepsEvent l e ten former m

-- an empty reel holds nothing
abbrev pub EmptyHoldsNone : Type 0
EmptyHoldsNone = SoundReel empty_reel × (rows_of empty_reel ≡ [])
