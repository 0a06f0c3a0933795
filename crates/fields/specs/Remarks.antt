-- How many of the integers in some fields have a remark. docs/FORMAT.md, "Integers": remarks never refuse.
use Rattle.std.specs.Prelude.{ℕ, ◌+◌, List, [], ◌∷◌, Some, None}
use Rattle.varint.specs.Integers.{read_int}
use Rattle.varint.specs.declared.Remark.TheVariants.{Overlong, Padding}
use Rattle.varint.specs.declared.IntRead.{IntRead}
use Rattle.varint.specs.declared.IntRead.TheVariants as ints
use Rattle.fields.specs.Fields.{Field, int, dt, mask, str, uuid, blob, args, Reading, got, runs_out, refused, read_field}

abbrev pub remark_in : IntRead → ℕ
remark_in (ints.Got z next None) = 0
remark_in (ints.Got z next (Some Overlong)) = 1
remark_in (ints.Got z next (Some Padding)) = 1
remark_in ints.RunsOut = 0

-- data and arguments begin with an integer too
abbrev pub field_remark : Field → List ℕ → ℕ → ℕ
field_remark int s at = remark_in (read_int s at)
field_remark dt s at = remark_in (read_int s at)
field_remark mask s at = remark_in (read_int s at)
field_remark str s at = 0
field_remark uuid s at = 0
field_remark blob s at = remark_in (read_int s at)
field_remark args s at = remark_in (read_int s at)

-- a number by what was got and the place past it; 0 where there is nothing
abbrev pub if_got : {A : Type 0} → Reading A → (A → ℕ → ℕ) → ℕ
if_got (got a next) k = k a next
if_got runs_out k = 0
if_got (refused r) k = 0

abbrev pub remarks : List Field → List ℕ → ℕ → ℕ
remarks [] s at = 0
remarks (f ∷ fs) s at = field_remark f s at + if_got (read_field f s at) (λ v next. remarks fs s next)
