-- What stands beside a record, and the numbers among the values of some fields.
use Rattle.std.specs.Prelude.{ℕ, ◌-◌, List, [], ◌∷◌, ◌++◌, length, replicate, ℤ, pos}
use Rattle.packer.specs.Parts.{part}
use Rattle.packer.specs.declared.Part.{Part}
use Rattle.fields.specs.Fields.{Field, int, Value, on_num}
use Rattle.fields.specs.declared.Args.{Args}

-- ---- arguments: the parts, then empty ones up to 16

unfoldable pub args_with : List Part → Args
args_with ps = record { count = length ps; parts = ps ++ replicate (16 - length ps) (part 0 0) }

-- ---- the ten numbers of an input

abbrev pub ten_fields : List Field
ten_fields = int ∷ int ∷ int ∷ int ∷ int ∷ int ∷ int ∷ int ∷ int ∷ int ∷ []

abbrev pub zeros : ℕ → List ℤ
zeros n = replicate n (pos 0)

unfoldable pub numbers : List (Value Part) → List ℤ
numbers [] = []
numbers (v ∷ vs) = on_num [] (λ z. z ∷ []) v ++ numbers vs
