-- What a call leaves, as a step; a client without an entry.
use Rattle.std.specs.Prelude.{ℕ, cond, ltb}
use Rattle.refusal.specs.declared.Refusal.{Refusal}
use Rattle.refusal.specs.declared.Refusal.TheVariants.{InvalidClientId}
use Rattle.state.specs.declared.Memory.{Memory}
use Rattle.state.specs.Reading.{Step, step_of}
use Rattle.state.specs.Slim.{said_is}
use Rattle.state.specs.declared.Outcome.{Outcome}

abbrev pub done : Outcome → Memory → Step
done o m = step_of (said_is o.answer) o.scalars m

-- why a client without an entry is refused, from its bits: 8 where it is negative
abbrev pub no_entry : ℕ → Refusal → Refusal
no_entry bits why = cond (ltb bits 2147483648) why InvalidClientId
