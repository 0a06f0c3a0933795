-- The results list of a body, for C and Rust programs to link. docs/FORMAT.md, "The results list".
use Rattle.std.specs.Prelude.{ℕ, ◌≡◌, List, set, ℤ}
use Rattle.refusal.specs.Numbers.{number_of}
use Rattle.kinds.specs.declared.Version.{Version}
use Rattle.listing.specs.declared.End.{End}
use Rattle.listing.specs.declared.End.TheVariants.{More, Finish, Refused}
use Rattle.listed.specs.Listed.{ListsBody}
use Rattle.listed.specs.declared.Listed.{Listed}

-- 0 for finish, the number of a refusal; more never comes
abbrev pub end_number : End → ℕ
end_number More = 0
end_number Finish = 0
end_number (Refused r) = number_of r

-- the list of a body: so many rows, and two numbers, that of the finishes of other clients and that of the end
pub record Links (v : Version) (body : List ℕ) (n : ℕ) (clients₀ times₀ ticks₀ : List ℤ) (two₀ : List ℕ) (clients₁ times₁ ticks₁ : List ℤ) (two₁ : List ℕ)
    : Type 0 where
  pub listed : Listed
  pub lists : ListsBody v body listed clients₀ times₀ ticks₀ clients₁ times₁ ticks₁
  pub rows : n ≡ listed.rows
  pub two : two₁ ≡ set (set two₀ 0 listed.others) 1 (end_number listed.end)
