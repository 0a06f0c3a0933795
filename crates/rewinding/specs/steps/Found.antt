-- What the search of a reel answers.
use Rattle.std.specs.Prelude.{Option, Some, None, ℕ}
use Rattle.rewinding.specs.Rewinding.{Newer, newer, gone}

abbrev pub found_is : Option ℕ → Newer
found_is (Some n) = newer n
found_is None = gone
