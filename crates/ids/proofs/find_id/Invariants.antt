-- `ids::find_id` meets its contract. The loop's invariant: what is found among those left is the answer. Assumes nothing.
use Prim.Native.Nat.{◌≤◌}
use mathlib.Core.Path.{◌≡◌}
use lib.ListN.{take, drop}
use Rattle.packer.specs.Parts.{shown}
use Rattle.shapes.specs.steps.Shapes.{id_part}
use Rattle.extensions.specs.Extensions.{all, find_in, find}
use Rattle.ids.proofs.find_id.Given as goal

abbrev pub invariant-loop-k : goal.invariant-loop-k
invariant-loop-k l = (l.k ≤ 20) × (find (shown l.s (id_part l.at)) ≡ find_in (drop l.k all) (take 16 (drop l.at l.s)))
