-- Whether something else than the room ended a run.
use Rattle.std.specs.Prelude.{Bool, true, false}
use Rattle.calls.specs.Along.{Halt, is_full, wants_more, finishes, is_refused}

abbrev pub not_full : Halt → Bool
not_full is_full = false
not_full wants_more = true
not_full finishes = true
not_full (is_refused k vs) = true
