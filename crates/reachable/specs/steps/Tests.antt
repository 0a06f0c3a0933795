-- What the test whether a board may be reached promises to the call that reaches it.
use Rattle.std.specs.Prelude.{◌≡◌, Option, Some, ℤ, Result, Ok, Err}
use Rattle.refusal.specs.declared.Refusal.{Refusal}
use Rattle.choice.specs.Reaching.{May, may, may_not}

-- the answer to whether a wanted board, whose tick is t, may be reached
abbrev pub AllowedIs : Option ℤ → Result ℤ Refusal → May → Type 0
AllowedIs t (Ok u) m = (m ≡ may) × (t ≡ Some u)
AllowedIs t (Err why) m = m ≡ may_not why
