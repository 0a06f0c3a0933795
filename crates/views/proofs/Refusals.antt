-- A refusal is known by its number and values. Assumes nothing.
use Prim.Native.Nat.{ℕ, ◌-◌}
use mathlib.Core.Path.{◌≡◌, refl, sym, ◌∙◌}
use mathlib.Core.List.{List, [], ◌∷◌}
use lib.ListN.{get_or}
use lib.IntN.{ℤ, pos}
use Rattle.refusal.specs.Numbers.{number_of, values_of}
use Rattle.refusal.specs.declared.Refusal.{Refusal}
use Rattle.refusal.specs.declared.Refusal.TheVariants.{
  WrongMagic,
  UnknownVersion,
  UnexpectedEnd,
  UnknownType,
  NegativeDt,
  NegativeNumArgs,
  NumArgsTooLarge,
  InvalidClientId,
  ShortTarget,
  ClientTooLarge,
  Unwritable,
  TickOverflow,
  PlayerNewDuplicate,
  PlayerDiffWithoutNew,
  PlayerOldWithoutNew,
  InputDiffWithoutNew,
  BadState,
  Closed,
  NotLast,
  TickGone,
  NegativeLength,
  MidRecord,
  Unreachable,
}
use Rattle.item.specs.Said.{refusing}
use Rattle.views.specs.Shown.{RefusalsShown}

-- the refusal of a number and values
abbrev pub refusal_by : ℕ → List ℤ → Refusal
refusal_by n vs =
    get_or
    (WrongMagic
    ∷ UnknownVersion
    ∷ UnexpectedEnd
    ∷ UnknownType (get_or vs 0 (pos 0))
    ∷ NegativeDt
    ∷ NegativeNumArgs
    ∷ NumArgsTooLarge
    ∷ InvalidClientId
    ∷ ShortTarget
    ∷ ClientTooLarge
    ∷ Unwritable
    ∷ TickOverflow
    ∷ PlayerNewDuplicate
    ∷ PlayerDiffWithoutNew
    ∷ PlayerOldWithoutNew
    ∷ InputDiffWithoutNew
    ∷ BadState
    ∷ Closed
    ∷ NotLast
    ∷ TickGone
    ∷ NegativeLength
    ∷ MidRecord
    ∷ [])
    (n - 1)
    Unreachable

pub by_number : (r : Refusal) → refusal_by (number_of r) (values_of r) ≡ r
by_number WrongMagic = refl
by_number UnknownVersion = refl
by_number UnexpectedEnd = refl
by_number (UnknownType kind) = refl
by_number NegativeDt = refl
by_number NegativeNumArgs = refl
by_number NumArgsTooLarge = refl
by_number InvalidClientId = refl
by_number ShortTarget = refl
by_number ClientTooLarge = refl
by_number Unwritable = refl
by_number TickOverflow = refl
by_number PlayerNewDuplicate = refl
by_number PlayerDiffWithoutNew = refl
by_number PlayerOldWithoutNew = refl
by_number InputDiffWithoutNew = refl
by_number BadState = refl
by_number Closed = refl
by_number NotLast = refl
by_number TickGone = refl
by_number NegativeLength = refl
by_number MidRecord = refl
by_number Unreachable = refl

pub refusals_shown : RefusalsShown
refusals_shown a b n v = sym (by_number a) ∙ rw (n, v, by_number b)

-- in an answer
pub same_refusal : {A : Type 0} (a b : Refusal) → refusing {A = A} a ≡ refusing {A = A} b → a ≡ b
same_refusal a b e = refusals_shown a b (cc) (cc)
