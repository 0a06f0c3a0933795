-- The replay program's turns and rounds print the text of a body. Assumes nothing.
use mathlib.Core.List.{List}
use Prim.Native.Nat.{ℕ}
use Rattle.windows.proofs.Wants as wants
use Rattle.windows.proofs.Bound.{turns_print}
use Rattle.windows.proofs.EnoughTurns as turns
use Rattle.windows.proofs.Rounds.{rounds_print}
use Rattle.windows.proofs.Teams as teams
use Rattle.replayer.specs.Replay.{as_text}
use Rattle.replayer.specs.Laws.{TurnsPrintText, WantsAtMore, EnoughTurns, TurnsWithTeams, RoundsPrintText}

pub turns_print_text : TurnsPrintText
turns_print_text = turns_print as_text

pub wants_at_more : WantsAtMore
wants_at_more = wants.wants_at_more

pub enough_turns : EnoughTurns
enough_turns = turns.enough_turns

pub turns_with_teams : TurnsWithTeams
turns_with_teams = teams.turns_with_teams

pub rounds_print_text : RoundsPrintText
rounds_print_text v k n = rounds_print as_text v k (λ (hand : List ℕ). n)
