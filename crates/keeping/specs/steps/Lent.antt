-- The row of an event in lent arrays; what a call on the lent arrays of a reel hands back and leaves, as one.
use Rattle.std.specs.Prelude.{ℕ, ◌≡◌, List, ℤ}
use Rattle.state.specs.State.{put_ten}
use Rattle.back.specs.declared.Undo.{Undo}
use Rattle.reel.specs.Reel.{of_input, numbers_of, reel_of}
use Rattle.reel.specs.declared.KeptReel.{KeptReel}
use Rattle.keeping.specs.declared.KeptCounts.{KeptCounts}

pub record Stored (u : Undo) (p : ℕ) (ten former rows₀ inputs₀ formers₀ rows₁ inputs₁ formers₁ : List ℤ) : Type 0 where
  pub rows : rows₁ ≡ put_ten rows₀ p (numbers_of u)
  pub inputs : inputs₁ ≡ of_input u (put_ten inputs₀ p ten) inputs₀
  pub formers : formers₁ ≡ of_input u (put_ten formers₀ p former) formers₀

abbrev pub kept_is : KeptCounts → List ℤ → List ℤ → List ℤ → KeptReel
kept_is r rows inputs formers = record { answer = r.answer; reel = reel_of r.counts rows inputs formers }
