-- Fields in the code's locals: a signed number is held by its bits. Assumes nothing.
use mathlib.Core.Path.{◌≡◌}
use mir.Syntax.{w32}
use mir.Val.{SFits, to_z, of_z}
use mir.Facts.{to_z-of_z}
use Rattle.shapes.specs.steps.Shapes.{fields_with}
use Rattle.shapes.specs.declared.Fields.{Fields}

abbrev pub held : Fields → Fields
held f = fields_with (to_z w32 (of_z w32 f.first)) (to_z w32 (of_z w32 f.second)) f.uuid f.text

pub held_same : (f : Fields) → SFits w32 f.first → SFits w32 f.second → held f ≡ f
held_same f p q = rw (to_z-of_z {w = w32} {z = f.first} p, to_z-of_z {w = w32} {z = f.second} q)
