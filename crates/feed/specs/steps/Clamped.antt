-- The bytes at hand with their places inside the buffer.
use Rattle.std.specs.Prelude.{ℕ, min}
use Rattle.feed.specs.declared.Hand.{Hand}

-- the same bytes, with places inside a buffer of a length
abbrev pub clamped : Hand → ℕ → Hand
clamped h len = record { at = min h.at (min h.end len); end = min h.end len; ended = h.ended }
