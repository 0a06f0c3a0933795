-- The statements of specs/Laws.antt. Assumes nothing.
use mathlib.Core.Path.{refl}
use lib.ListN.{length-replicate}
use lib.IntN.{ℤ, pos}
use Rattle.back.specs.Undo.{undo_of}
use Rattle.reel.specs.Reel.{rows_before, rows_of, empty_reel}
use Rattle.reel.specs.Laws.{RowsTell, SoundReel, Keeps, EmptyHoldsNone}
use Rattle.reel.proofs.Telling.{undo_told}
use Rattle.reel.proofs.Keeping.{keep_sound, keep_holds}

pub rows_tell : RowsTell
rows_tell = undo_told

pub keeps : Keeps
keeps l e ten former m s its before =
    record { sound = keep_sound l (undo_of e m) ten former s; holds = keep_holds l (undo_of e m) ten former s its before }

empty_sound : SoundReel empty_reel
unfolding empty_reel
empty_sound =
    record {
      good = refl;
      rows = length-replicate {A = ℤ} 5120 (pos 0);
      inputs = length-replicate {A = ℤ} 5120 (pos 0);
      formers = length-replicate {A = ℤ} 5120 (pos 0);
    }

pub empty_holds_none : EmptyHoldsNone
unfolding empty_reel rows_of rows_before
empty_holds_none = (empty_sound, refl)
