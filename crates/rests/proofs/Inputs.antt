-- A kind by whether it is that of an input. Assumes nothing.
use mathlib.Core.Path.{◌≡◌, sym, ap, subst}
use mathlib.Core.Bool.{Bool, false}
use Rattle.std.specs.Prelude.{Option, Some, None}
use Rattle.kinds.specs.steps.Kinds.{input_kind}
use Rattle.kinds.specs.declared.Kind.{Kind}
use Rattle.kinds.specs.declared.Kind.TheVariants as kinds
use Rattle.state.specs.Sorts.{sort_of}
use Rattle.rests.specs.steps.Kinds.{input_of}

abbrev IsInput : Option Bool → Type 0
IsInput (Some new) = Unit {0}
IsInput None = ⊥

pub no_input : {new : Bool} → ◌≡◌ {A = Option Bool} None (Some new) → ⊥
no_input e = subst IsInput (sym e) tt

abbrev new_of : Option Bool → Bool
new_of (Some new) = new
new_of None = false

pub kind_of_input : (k : Kind) (new : Bool) → input_of (sort_of k) ≡ Some new → k ≡ input_kind new
kind_of_input (kinds.PlayerDiff c) new e = absurd (no_input e)
kind_of_input kinds.Finish new e = absurd (no_input e)
kind_of_input kinds.TickSkip new e = absurd (no_input e)
kind_of_input (kinds.PlayerNew c) new e = absurd (no_input e)
kind_of_input (kinds.PlayerOld c) new e = absurd (no_input e)
kind_of_input kinds.InputDiff new e = ap (λ (i : Option Bool). input_kind (new_of i)) e
kind_of_input kinds.InputNew new e = ap (λ (i : Option Bool). input_kind (new_of i)) e
kind_of_input kinds.Message new e = absurd (no_input e)
kind_of_input kinds.Join new e = absurd (no_input e)
kind_of_input kinds.Drop new e = absurd (no_input e)
kind_of_input kinds.ConsoleCommand new e = absurd (no_input e)
kind_of_input kinds.Ex new e = absurd (no_input e)
