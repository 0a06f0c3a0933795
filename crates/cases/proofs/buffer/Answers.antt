-- `cases::buffer` meets its contract. Assumes nothing.
use Prim.Native.Nat.{ℕ}
use mathlib.Core.Path.{refl, sym}
use lib.ListN.{length-replicate}
use Rattle.cases.proofs.buffer.Goals as goal

pub returns : goal.returns
returns c =
    (refl, sym (length-replicate {A = ℕ} 1048576 0))
