-- What a call may say. docs/FORMAT.md, "What a call may say".
use Rattle.std.specs.Prelude.{ℕ, Bool, true, false, List, ℤ}
use Rattle.refusal.specs.Numbers.{number_of, values_of}
use Rattle.refusal.specs.declared.Refusal.{Refusal}
use Rattle.refusal.specs.declared.Refusal.TheVariants.{UnexpectedEnd}

-- what it gives (a record, an event) with the bytes used; more; finish, with the bytes used; a refusal's number and values
pub data Said (A : Type 0) : Type 0 where
  gives : A → ℕ → Said A
  more : Said A
  finish : ℕ → Said A
  refuses : ℕ → List ℤ → Said A

abbrev pub refusing : {A : Type 0} → Refusal → Said A
refusing r = refuses (number_of r) (values_of r)

-- the bytes needed run out: more, or 3 where no more come
abbrev pub out_of_bytes : {A : Type 0} → Bool → Said A
out_of_bytes true = refusing UnexpectedEnd
out_of_bytes false = more
