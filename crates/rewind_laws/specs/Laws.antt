-- Rewinding with a reel that was filled beside the reader without a gap, over the lists of calls of demand 3; proofs/Theorems.antt proves it.
-- docs/FORMAT.md, "Rewinding".
use Rattle.std.specs.Prelude.{ℕ, ◌≡◌, Bool, false, cond, List, [], ◌∷◌, map, length, take, ltb, ℤ}
use Rattle.refusal.specs.declared.Refusal.TheVariants.{Closed, NotLast, TickGone}
use Rattle.kinds.specs.declared.Version.{Version}
use Rattle.teams.specs.Teams.{empty_team_reader}
use Rattle.teams.specs.declared.TeamReader.{TeamReader}
use Rattle.calls.specs.Calls.{Call}
use Rattle.team_calls.specs.Lists.{TeamSeen, next_team, team_event_of, team_after, team_events}
use Rattle.back.specs.TeamBoard.{TeamBack, was, refused, team_board_of}
use Rattle.back.specs.Undo.{undo_of}
use Rattle.back.specs.declared.TeamBoard.{TeamBoard}
use Rattle.reel.specs.Reel.{rows_of, empty_reel}
use Rattle.reeling.specs.Reeling.{reel_after}
use Rattle.reeling.specs.Laws.{row_of}
use Rattle.rewinding.specs.Rewinding.{is_start, closed_by_refusal, rewind_to}

-- ---- the board that reading had

-- just after the newest TickStart of a tick among the events of calls, with the number of events since; or that there is none
pub data Had : Type 0 where
  had : TeamBoard → ℕ → Had
  never : Had

-- one of the event of a call, if it gives one
abbrev pub starts_in : ℤ → List TeamSeen → Bool
starts_in t [] = false
starts_in t (x ∷ xs) = is_start t (undo_of x.seen.event x.team)

abbrev pub or_else : Had → Had → Had
or_else (had b n) other = had b n
or_else never other = other

unfoldable pub had_after : ℤ → TeamReader → List Call → Had
had_after t r [] = never
had_after t r (c ∷ cs) =
    or_else (had_after t (next_team r c) cs)
    (cond (starts_in t (team_event_of r c)) (had (team_board_of (next_team r c)) (length (team_events (next_team r c) cs))) never)

-- that board, if its TickStart is among the last 512 events, else 20
abbrev pub if_among512 : Had → TeamBack
if_among512 (had b since) = cond (ltb since 512) (was b) (refused TickGone)
if_among512 never = refused TickGone

-- ---- the theorem

-- calls from an empty reader, cut anywhere, with an empty reel at the cut that then keeps every event: the reel holds the last 512 events since;
-- unless the reader was closed by a refusal, rewinding to any tick gives exactly the board that reading had just after its TickStart, if that
-- is among these 512, and for any other tick it is 20; an event that doesn't fit never comes
pub record Rewinds (v : Version) (before since : List Call) : Type 0 where
  pub holds : let r = team_after (empty_team_reader v) before in rows_of (reel_after empty_reel r since) ≡ map row_of (take 512 (team_events r since))
  pub rewinds : (t : ℤ) → let r = team_after (empty_team_reader v) before in
      rewind_to (team_after r since) (reel_after empty_reel r since) t
      ≡ cond (closed_by_refusal (team_after r since).reader.scalars.standing) (refused Closed) (if_among512 (had_after t r since))
  pub fits : (t : ℤ) → let r = team_after (empty_team_reader v) before in
      rewind_to (team_after r since) (reel_after empty_reel r since) t ≡ refused NotLast → ⊥

abbrev pub RewindsToTick : Type 0
RewindsToTick = (v : Version) (before since : List Call) → Rewinds v before since
