-- What the writers answer, in their own enum; `WritersSay` has it as what a call says.
use Rattle.std.specs.Prelude.{ℕ, ◌+◌, Bool, cond, List, length, Result, Ok, Err}
use Rattle.refusal.specs.declared.Refusal.{Refusal}
use Rattle.refusal.specs.declared.Refusal.TheVariants.{ShortTarget, Unwritable}
use Rattle.varint.specs.Written.{fits_at}

-- the place past the bytes; refusal 9 where they don't fit
unfoldable pub wrote : List ℕ → ℕ → List ℕ → Result ℕ Refusal
wrote xs at bs = cond (fits_at xs at bs) (Ok (at + length bs)) (Err ShortTarget)

-- what has a written form only under a condition: refusal 11 comes first
abbrev pub wrote_if : Bool → List ℕ → ℕ → List ℕ → Result ℕ Refusal
wrote_if ok xs at bs = cond ok (wrote xs at bs) (Err Unwritable)
