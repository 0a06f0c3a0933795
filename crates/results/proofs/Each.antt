-- What holds of each finish in a list: of two lists one behind the other, and of one among them. Assumes nothing.
use mathlib.Core.List.{List, [], ◌∷◌, ◌++◌}
use Rattle.results.specs.Results.{Finish}
use Rattle.results.specs.Laws.{Each}

module _ (P Q : Finish → Type 0) where
  pub all_map : ((f : Finish) → P f → Q f) → (fs : List Finish) → Each P fs → Each Q fs
  all_map g [] h = tt
  all_map g (f ∷ fs) h = (g f h.0, all_map g fs h.1)

module _ (P : Finish → Type 0) where
  pub all_append : (fs gs : List Finish) → Each P fs → Each P gs → Each P (fs ++ gs)
  all_append [] gs h k = k
  all_append (f ∷ fs) gs h k = (h.0, all_append fs gs h.1 k)

  pub all_at : (fs : List Finish) (f : Finish) (gs : List Finish) → Each P (fs ++ f ∷ gs) → P f
  all_at [] f gs h = h.0
  all_at (g ∷ fs) f gs h = all_at fs f gs h.1
