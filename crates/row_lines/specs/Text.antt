-- The lines of events. docs/FORMAT.md, "The replay program".
use Rattle.std.specs.Prelude.{ℕ}
use mathlib.Core.List.{List, map, flat_map}
use Rattle.calls.specs.Calls.{Seen}
use Rattle.team_calls.specs.Lists.{TeamSeen}
use Rattle.lines.specs.Lines.{line_of}

-- a line for each event
abbrev pub text_of : List Seen → List ℕ
text_of xs = flat_map (λ (x : Seen). line_of x.event x.ten) xs

-- events without the former team beside each; their lines don't tell it
abbrev pub events_in : List TeamSeen → List Seen
events_in xs = map (λ (x : TeamSeen). x.seen) xs
