-- The number of each refusal, and its values. docs/FORMAT.md, "What a call may say".
use Rattle.std.specs.Prelude.{ℕ, List, [], ◌∷◌, ℤ}
use Rattle.refusal.specs.declared.Refusal.{Refusal}
use Rattle.refusal.specs.declared.Refusal.TheVariants.{
  WrongMagic,
  UnknownVersion,
  UnexpectedEnd,
  UnknownType,
  NegativeDt,
  NegativeNumArgs,
  NumArgsTooLarge,
  InvalidClientId,
  ShortTarget,
  ClientTooLarge,
  Unwritable,
  TickOverflow,
  PlayerNewDuplicate,
  PlayerDiffWithoutNew,
  PlayerOldWithoutNew,
  InputDiffWithoutNew,
  BadState,
  Closed,
  NotLast,
  TickGone,
  NegativeLength,
  MidRecord,
  Unreachable,
}

abbrev pub numbered : Refusal → ℕ × List ℤ
numbered WrongMagic = (1, [])
numbered UnknownVersion = (2, [])
numbered UnexpectedEnd = (3, [])
numbered (UnknownType kind) = (4, kind ∷ [])
numbered NegativeDt = (5, [])
numbered NegativeNumArgs = (6, [])
numbered NumArgsTooLarge = (7, [])
numbered InvalidClientId = (8, [])
numbered ShortTarget = (9, [])
numbered ClientTooLarge = (10, [])
numbered Unwritable = (11, [])
numbered TickOverflow = (12, [])
numbered PlayerNewDuplicate = (13, [])
numbered PlayerDiffWithoutNew = (14, [])
numbered PlayerOldWithoutNew = (15, [])
numbered InputDiffWithoutNew = (16, [])
numbered BadState = (17, [])
numbered Closed = (18, [])
numbered NotLast = (19, [])
numbered TickGone = (20, [])
numbered NegativeLength = (21, [])
numbered MidRecord = (22, [])
numbered Unreachable = (23, [])

abbrev pub number_of : Refusal → ℕ
number_of r = (numbered r).0

-- the values that come with a refusal: the kind with 4
abbrev pub values_of : Refusal → List ℤ
values_of r = (numbered r).1
