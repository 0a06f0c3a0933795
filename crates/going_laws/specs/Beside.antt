-- A rewind under way beside a reader, with a reel that was filled without a gap, over the lists of calls of demand 3; proofs/Beside.antt
-- proves it. docs/FORMAT.md, "A rewind under way".
use Rattle.std.specs.Prelude.{ℕ, ◌+◌, min, ◌≤◌, ◌≡◌, cond, List, ◌++◌, length, ltb, ℤ, Result, Ok, Err}
use Rattle.refusal.specs.declared.Refusal.{Refusal}
use Rattle.refusal.specs.declared.Refusal.TheVariants.{Closed, TickGone}
use Rattle.kinds.specs.declared.Version.{Version}
use Rattle.teams.specs.Teams.{empty_team_reader}
use Rattle.teams.specs.declared.TeamReader.{TeamReader}
use Rattle.calls.specs.Calls.{Call}
use Rattle.team_calls.specs.Lists.{team_after, team_events}
use Rattle.back.specs.TeamBoard.{team_board_of}
use Rattle.back.specs.declared.TeamBoard.{TeamBoard}
use Rattle.reel.specs.Reel.{empty_reel}
use Rattle.reeling.specs.Reeling.{reel_after}
use Rattle.rewinding.specs.Rewinding.{closed_by_refusal}
use Rattle.rewind_laws.specs.Laws.{Had, had, never, had_after}
use Rattle.going.specs.Going.{start_of, start_rewind}
use Rattle.going.specs.declared.Rewind.{Rewind}
use Rattle.going.specs.declared.StartAnswer.TheVariants as starts
use Rattle.going.specs.declared.GoAnswer.TheVariants as answers
use Rattle.going.specs.declared.Go.{Go}
use Rattle.going_laws.specs.Laws.{go_each, total}

-- the board that reading had before the last k events of calls: those calls cut in two, with k events behind the cut
pub record BoardBefore (k : ℕ) (r : TeamReader) (since : List Call) (b : TeamBoard) : Type 0 where
  pub upto : List Call
  pub behind : List Call
  pub cut : since ≡ upto ++ behind
  pub number : length (team_events (team_after r upto) behind) ≡ k
  pub board : b ≡ team_board_of (team_after r upto)

-- where the TickStart of a tick stands, if it is among the last 512 events, else 20
abbrev pub sought_had : Had → Result ℕ Refusal
sought_had (had b since) = cond (ltb since 512) (Ok since) (Err TickGone)
sought_had never = Err TickGone

-- what a rewind that was started answers and shows after n events: g is what the last call answered and left
pub record Shows (t : ℤ) (r : TeamReader) (since : List Call) (w : Rewind) (n : ℕ) (g : Go) : Type 0 where
  -- 19 never comes
  pub answer : g.answer ≡ cond (ltb n w.progress.newer) answers.Going answers.Ended
  -- the board after the last event stepped over is one of demand 3's
  pub copy : BoardBefore (min n w.progress.newer) r since g.rewind.board
  -- where it ends it is the one that reading had just after the newest TickStart of the tick
  pub end : w.progress.newer ≤ n → had_after t r since ≡ had g.rewind.board w.progress.newer

-- calls from an empty reader, cut anywhere, with an empty reel at the cut that then keeps every event; then a rewind, in calls of any numbers of
-- events. Whatever is read later, the reader and its reel are no part of what was started
pub record Goes (v : Version) (before since : List Call) : Type 0 where
  pub begins : (t : ℤ) → let r = team_after (empty_team_reader v) before in
      let l = reel_after empty_reel r since in
      start_rewind (team_after r since) l t
      ≡ start_of (team_board_of (team_after r since)) l t (cond (closed_by_refusal (team_after r since).reader.scalars.standing) (Err Closed) (sought_had (had_after t r since)))
  pub shows : (t : ℤ) → let r = team_after (empty_team_reader v) before in
      let s = start_rewind (team_after r since) (reel_after empty_reel r since) t in
      s.answer ≡ starts.Started → (n : ℕ) (ms : List ℕ) → Shows t r since s.rewind (n + total ms) (go_each s.rewind n ms)

abbrev pub GoesBack : Type 0
GoesBack = (v : Version) (before since : List Call) → Goes v before since
