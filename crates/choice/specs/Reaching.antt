-- From a reader and a wanted board to the bytes of records that bring the reader there. docs/FORMAT.md, "From a wanted board to a recording".
use Rattle.std.specs.Prelude.{ℕ, ◌≡◌, Bool, true, not, cond, ◌&&◌, ◌||◌, List, [], ℤ, pos, Option, Some, None, Result}
use Rattle.std.specs.Int.Signed.{lt_z}
use Rattle.refusal.specs.Said.{Said, refusing}
use Rattle.refusal.specs.declared.Refusal.{Refusal}
use Rattle.refusal.specs.declared.Refusal.TheVariants.{BadState, Closed, MidRecord, Unreachable}
use Rattle.varint.specs.Written.{written, wrote_said, writing}
use Rattle.kinds.specs.declared.Version.{Version}
use Rattle.state.specs.State.{same_int, holds, every, has_ex}
use Rattle.state.specs.Reading.{is_closed, at_or_below}
use Rattle.state.specs.declared.Entries.{Entries}
use Rattle.state.specs.declared.Scalars.{Scalars}
use Rattle.teams.specs.Teams.{has_team, good_team_reader}
use Rattle.teams.specs.declared.TeamReader.{TeamReader}
use Rattle.calls.specs.Calls.{is_pending}
use Rattle.back.specs.TeamBoard.{good_team_board}
use Rattle.back.specs.declared.TeamBoard.{TeamBoard}
use Rattle.choice.specs.Chosen.{player_of, same_player, chosen, bytes_of}

-- ---- what can't be done: from scalars s, entries e and teams t to tick u with the entries w and the teams wt

-- the wanted tick is below the reader's
abbrev pub tick_below : Scalars → ℤ → Bool
tick_below s u = lt_z u s.tick

-- a client has inputs now and none in the wanted board
unfoldable pub loses_input : Entries → Entries → Bool
loses_input e w = not (every 128 (λ c. cond (holds e c) (holds w c) true))

-- a client has a team now and none in the wanted board
unfoldable pub loses_team : List ℤ → List ℤ → Bool
loses_team t wt = not (every 128 (λ c. cond (has_team t c) (has_team wt c) true))

-- any team is wanted in version 1, which has no PlayerTeam
unfoldable pub any_team : List ℤ → Bool
any_team wt = not (every 128 (λ c. not (has_team wt c)))

abbrev pub team_without : Version → List ℤ → Bool
team_without v wt = not (has_ex v) && any_team wt

-- a player entry differs at or below the remembered client
unfoldable pub differs_behind : Option ℤ → Entries → Entries → Bool
differs_behind p e w = not (every 128 (λ c. cond (at_or_below (pos c) p) (same_player (player_of e c) (player_of w c)) true))

-- the ticks are equal, the reader is inside it, and a player entry differs at or below the remembered client
abbrev pub player_behind : Scalars → Entries → ℤ → Entries → Bool
player_behind s e u w = (s.inside && same_int u s.tick) && differs_behind s.remembered e w

abbrev pub cant_reach : Scalars → Entries → List ℤ → ℤ → Entries → List ℤ → Bool
cant_reach s e t u w wt =
    tick_below s u || (loses_input e w || (loses_team t wt || (team_without s.version wt || player_behind s e u w)))

-- 23: a wanted board outside a tick too
abbrev pub unreachable : Scalars → Entries → List ℤ → Option ℤ → Entries → List ℤ → Bool
unreachable s e t (Some u) w wt = cant_reach s e t u w wt
unreachable s e t None w wt = true

-- ---- the bytes of the chosen records

abbrev pub choice_to : Scalars → Entries → List ℤ → Option ℤ → Entries → List ℤ → List ℕ
choice_to s e t (Some u) w wt = bytes_of (chosen s e t u w wt)
choice_to s e t None w wt = []

unfoldable pub choice : TeamReader → TeamBoard → List ℕ
choice r b = choice_to r.reader.scalars r.reader.entries r.teams b.board.tick b.board.entries b.teams

-- ---- the call

-- what comes before the target is looked at: nothing, or a refusal
pub data May : Type 0 where
  may : May
  may_not : Refusal → May

-- 17 (reader, board), 18, 22, 23
unfoldable pub may_reach : TeamReader → TeamBoard → May
may_reach r b =
    cond (good_team_reader r && good_team_board b)
    (cond (is_closed r.reader.scalars.standing)
    (may_not Closed)
    (cond (is_pending r.reader.scalars.pending)
    (may_not MidRecord)
    (cond (unreachable r.reader.scalars r.reader.entries r.teams b.board.tick b.board.entries b.teams)
    (may_not Unreachable) may)))
    (may_not BadState)

-- then 9, else the number of bytes written, at the front of the target
abbrev pub reach_says : May → List ℕ → List ℕ → Said ℕ
reach_says may xs bs = writing true xs 0 bs
reach_says (may_not why) xs bs = refusing why

abbrev pub reach_leaves : May → List ℕ → List ℕ → List ℕ
reach_leaves may xs bs = written xs 0 bs
reach_leaves (may_not why) xs bs = xs

-- the answer w on the target xs, and the target ys after it
pub record ReachIs (r : TeamReader) (b : TeamBoard) (xs : List ℕ) (w : Result ℕ Refusal) (ys : List ℕ) : Type 0 where
  pub answer : wrote_said w ≡ reach_says (may_reach r b) xs (choice r b)
  pub target : ys ≡ reach_leaves (may_reach r b) xs (choice r b)
