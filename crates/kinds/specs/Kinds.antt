-- Kinds. docs/FORMAT.md, "Records": 0 and above PlayerDiff of that client; -1 Finish; .. -11 extension, version 2 only.
use Rattle.std.specs.Prelude.{ℕ, zero, suc, ◌+◌, Bool, true, false, cond, List, [], ◌∷◌, ℤ, pos, negsuc, Option, Some, None}
use Rattle.refusal.specs.declared.Refusal.TheVariants.{UnknownType}
use Rattle.varint.specs.Integers.{read_int}
use Rattle.fields.specs.Fields.{Field, int, dt, mask, str, blob, Reading, got, refused, with_int}
use Rattle.kinds.specs.declared.Version.{Version}
use Rattle.kinds.specs.declared.Version.TheVariants.{V1, V2}
use Rattle.kinds.specs.declared.Kind.{Kind}
use Rattle.kinds.specs.declared.Kind.TheVariants.{
  PlayerDiff,
  Finish,
  TickSkip,
  PlayerNew,
  PlayerOld,
  InputDiff,
  InputNew,
  Message,
  Join,
  Drop,
  ConsoleCommand,
  Ex,
}

-- extensions come in version 2 only
abbrev pub has_ex : Version → Bool
has_ex V1 = false
has_ex V2 = true

-- by a kind's number, and for PlayerNew and PlayerOld by the client that follows it; `negsuc n` is -(n + 1)
abbrev pub kind_of : Version → List ℕ → ℤ → ℕ → Reading Kind
kind_of v s (pos c) next = got (PlayerDiff (pos c)) next
kind_of v s (negsuc zero) next = got Finish next
kind_of v s (negsuc (suc zero)) next = got TickSkip next
kind_of v s (negsuc (suc (suc zero))) next = with_int (read_int s next) (λ c. got (PlayerNew c))
kind_of v s (negsuc (suc (suc (suc zero)))) next = with_int (read_int s next) (λ c. got (PlayerOld c))
kind_of v s (negsuc (suc (suc (suc (suc zero))))) next = got InputDiff next
kind_of v s (negsuc (suc (suc (suc (suc (suc zero)))))) next = got InputNew next
kind_of v s (negsuc (suc (suc (suc (suc (suc (suc zero))))))) next = got Message next
kind_of v s (negsuc (suc (suc (suc (suc (suc (suc (suc zero)))))))) next = got Join next
kind_of v s (negsuc (suc (suc (suc (suc (suc (suc (suc (suc zero))))))))) next = got Drop next
kind_of v s (negsuc (suc (suc (suc (suc (suc (suc (suc (suc (suc zero)))))))))) next = got ConsoleCommand next
kind_of v s (negsuc (suc (suc (suc (suc (suc (suc (suc (suc (suc (suc zero))))))))))) next = cond (has_ex v) (got Ex next) (refused (UnknownType (negsuc 10)))
kind_of v s (negsuc (suc (suc (suc (suc (suc (suc (suc (suc (suc (suc (suc n)))))))))))) next = refused (UnknownType (negsuc (11 + n)))

-- the kind at a place
unfoldable pub read_kind : Version → List ℕ → ℕ → Reading Kind
read_kind v s at = with_int (read_int s at) (kind_of v s)

-- ---- the kinds, a row for each

-- where a record's client stands: nowhere; it is the kind's number; it follows the number; it is the first of the fields
pub data Client : Type 0 where
  nowhere : Client
  is_number : ℤ → Client
  following : ℤ → Client
  leading : Client

-- an answer for each, in this order
abbrev pub by_client {ℓ} : {A : Type ℓ} → A → (ℤ → A) → (ℤ → A) → A → Client → A
by_client x f g y nowhere = x
by_client x f g y (is_number c) = f c
by_client x f g y (following c) = g c
by_client x f g y leading = y

-- what stands beside a record: nothing, the ten numbers of an input, the arguments of a command. Or the record is an extension
pub data Beside : Type 0 where
  nothing : Beside
  ten : Beside
  arguments : Beside
  of_extension : Beside

-- an answer for each, in this order
abbrev pub by_beside {ℓ} : {A : Type ℓ} → A → A → A → A → Beside → A
by_beside x y z w nothing = x
by_beside x y z w ten = y
by_beside x y z w arguments = z
by_beside x y z w of_extension = w

-- what a player record does
pub data Change : Type 0 where
  moves : Change
  comes : Change
  leaves : Change

-- what the tick rules tell apart: a player record of a client; an input, and whether it is an InputNew; TickSkip; Finish; any other record,
-- and whether it is an extension
pub data Sort : Type 0 where
  player : Change → ℤ → Sort
  input : Bool → Sort
  skip : Sort
  finish : Sort
  other : Bool → Sort

pub record KindRow : Type 0 where
  pub number : ℤ
  pub client : Client
  pub own : List Field
  pub beside : Beside
  pub sort : Sort

abbrev is : ℤ → Client → List Field → Beside → Sort → KindRow
is z c fs b r = record { number = z; client = c; own = fs; beside = b; sort = r }

abbrev pub kind_row : Kind → KindRow
kind_row (PlayerDiff c) = is c (is_number c) (int ∷ int ∷ []) nothing (player moves c)
kind_row Finish = is (negsuc 0) nowhere [] nothing finish
kind_row TickSkip = is (negsuc 1) nowhere (dt ∷ []) nothing skip
kind_row (PlayerNew c) = is (negsuc 2) (following c) (int ∷ int ∷ []) nothing (player comes c)
kind_row (PlayerOld c) = is (negsuc 3) (following c) [] nothing (player leaves c)
kind_row InputDiff = is (negsuc 4) leading (int ∷ []) ten (input false)
kind_row InputNew = is (negsuc 5) leading (int ∷ []) ten (input true)
kind_row Message = is (negsuc 6) leading (int ∷ blob ∷ []) nothing (other false)
kind_row Join = is (negsuc 7) leading (int ∷ []) nothing (other false)
kind_row Drop = is (negsuc 8) leading (int ∷ str ∷ []) nothing (other false)
kind_row ConsoleCommand = is (negsuc 9) leading (int ∷ mask ∷ str ∷ []) arguments (other false)
kind_row Ex = is (negsuc 10) nowhere [] of_extension (other true)

abbrev pub kind_number : Kind → ℤ
kind_number k = (kind_row k).number

abbrev pub sort_of : Kind → Sort
sort_of k = (kind_row k).sort

-- the client of a record of a kind, whose first number this is
abbrev pub kind_cid : Kind → ℤ → Option ℤ
kind_cid k z = by_client None Some Some (Some z) (kind_row k).client
