-- What holds of every reader reached by reading. Assumes nothing.
use mathlib.Core.Path.{refl}
use Rattle.state.specs.State.{empty_reader}
use Rattle.state.specs.Laws.{Sound, ForgetsBetween}
use Rattle.state.proofs.Theorems.{empty_sound, readers_stay_sound, readers_forget_between}
use Rattle.calls.specs.Laws.{ReachedSound, ReachedForgetBetween}
use Rattle.calls.proofs.Rise.{lists_keep}

pub reached_sound : ReachedSound
reached_sound v list = lists_keep Sound (λ r c. readers_stay_sound r c.window c.last) (empty_reader v) list (empty_sound v)

pub reached_forget_between : ReachedForgetBetween
unfolding empty_reader
reached_forget_between v list =
    lists_keep (λ r. ForgetsBetween r.scalars) (λ r c. readers_forget_between r c.window c.last) (empty_reader v) list (λ _ _ _. refl)
