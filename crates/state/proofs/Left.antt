-- What PlayerNew, PlayerOld and InputNew leave. Assumes nothing.
use mathlib.Core.Path.{◌≡◌, refl}
use native.Mathlib.Omega.{arith}
use lib.Dec.{ltb}
use lib.IntN.{pos, negsuc}
use borrow.Author.Tests.{lt-ltb, ltb-false}
use Rattle.state.specs.State.{with_entries, present, with_player}
use Rattle.state.specs.Reading.{Step, refusal_step, new_player, old_player, input_new}
use Rattle.state.specs.Laws.{NewPlaces, OldLeavesInputs, InputNewOverwrites}
use Rattle.state.proofs.Every.{by_cond}

pub new_places : NewPlaces
unfolding new_player refusal_step
new_places s m c x y n h =
    let P : Step → Type 0 = λ t. t.memory ≡ with_entries (with_player m.entries c 1 x y) m in
    by_cond P (ltb c 128)
    (λ _. by_cond P (present m.entries c) (λ _. refl) (λ _. refl))
    (λ o. absurd (omega (arith, ltb-false c 128 o)))

pub old_leaves_inputs : OldLeavesInputs
unfolding old_player refusal_step
old_leaves_inputs s m (pos c) n =
    by_cond (λ (t : Step). (t.memory.entries.held ≡ m.entries.held) × (t.memory.entries.inputs ≡ m.entries.inputs))
    (present m.entries c)
    (λ _. (refl, refl))
    (λ _. (refl, refl))
old_leaves_inputs s m (negsuc c) n = (refl, refl)

pub input_new_overwrites : InputNewOverwrites
unfolding input_new
input_new_overwrites s m c ns n h = rw (lt-ltb c 128 h)
