-- What it tells that a wanted board is not refused. Assumes nothing.
use Rattle.std.specs.Prelude.{Option, Some, None}
use Prim.Native.Nat.{ℕ, ◌<◌}
use mathlib.Core.Path.{◌≡◌, refl, sym, ap, ◌∙◌}
use mathlib.Core.Bool.{Bool, true, false, not, cond, ◌&&◌, false≢true}
use mathlib.Core.List.{List}
use native.Mathlib.Omega.{arith}
use lib.IntN.{ℤ, pos}
use lib.Signed.{lt_z, non_neg}
use borrow.Author.Tests.{not-false}
use Rattle.kinds.specs.declared.Kind.{Kind}
use Rattle.refusal.specs.declared.Refusal.{Refusal}
use Rattle.refusal.specs.declared.Refusal.TheVariants.{BadState, Closed, MidRecord, Unreachable}
use Rattle.num.proofs.Cases.{by_bool}
use Rattle.kinds.specs.declared.Version.{Version}
use Rattle.kinds.specs.declared.Version.TheVariants.{V1, V2}
use Rattle.state.specs.State.{same_int, holds, good_scalars, good_entries, good_reader}
use Rattle.state.specs.Reading.{is_closed, at_or_below}
use Rattle.state.specs.Laws.{ForgetsBetween}
use Rattle.state.specs.declared.Entries.{Entries}
use Rattle.state.specs.declared.Scalars.{Scalars}
use Rattle.state.specs.declared.Standing.{Standing}
use Rattle.state.specs.declared.Standing.TheVariants.{Open, Finished, Refused}
use Rattle.state.specs.declared.Reader.{Reader}
use Rattle.state.proofs.Goods.{good_tick_law}
use Rattle.teams.specs.Teams.{has_team, good_teams, good_team_reader}
use Rattle.teams.specs.declared.TeamReader.{TeamReader}
use Rattle.calls.specs.Calls.{is_pending}
use Rattle.back.specs.Board.{board, good_board}
use Rattle.back.specs.TeamBoard.{good_team_board}
use Rattle.demand.proofs.Tests.{and-true, and_both, or-false, same_refl, every_at}
use Rattle.choice.specs.Chosen.{player_of, same_player}
use Rattle.choice.specs.Reaching.{
  tick_below,
  loses_input,
  loses_team,
  any_team,
  team_without,
  differs_behind,
  player_behind,
  cant_reach,
  May,
  may,
  may_not,
  may_reach,
}
use Rattle.choice.specs.Laws.{wanted}
use Rattle.leading.specs.Records.{Rises}

-- ---- one test after the other

passes : (why : Refusal) (t : Bool) {x : May} → cond t x (may_not why) ≡ may → (t ≡ true) × (x ≡ may)
passes why true e = (refl, e)
passes why false e = let z : ◌≡◌ {A = ℕ} 0 1 = cc in absurd (omega arith)

avoids : (why : Refusal) (t : Bool) {x : May} → cond t (may_not why) x ≡ may → (t ≡ false) × (x ≡ may)
avoids why true e = let z : ◌≡◌ {A = ℕ} 0 1 = cc in absurd (omega arith)
avoids why false e = (refl, e)

not_closed : (s : Standing) → is_closed s ≡ false → s ≡ Open
not_closed Open e = refl
not_closed Finished e = absurd (false≢true (sym e))
not_closed Refused e = absurd (false≢true (sym e))

not_pending : (p : Option Kind) → is_pending p ≡ false → p ≡ None
not_pending None e = refl
not_pending (Some k) e = absurd (false≢true (sym e))

second_false : (a b : Bool) → a && b ≡ false → a ≡ true → b ≡ false
second_false a b e t = rw t at e

-- ---- what can't be done doesn't hold

module _ (e w : Entries) where
  inputs_kept : loses_input e w ≡ false → (c : ℕ) → c < 128 → holds e c ≡ true → holds w c ≡ true
  unfolding loses_input
  inputs_kept f c h t =
      let a : cond (holds e c) (holds w c) true ≡ true =
      every_at 128 (λ k. cond (holds e k) (holds w k) true) (not-false _ f) c h in
      rw t at a

  -- a player entry that differs is above the remembered client
  differs_above : (p : Option ℤ) → differs_behind p e w ≡ false → (c : ℕ) → c < 128 → same_player (player_of e c) (player_of w c) ≡ false
      → at_or_below (pos c) p ≡ false
  unfolding differs_behind
  differs_above p f c h d =
      let a : cond (at_or_below (pos c) p) (same_player (player_of e c) (player_of w c)) true ≡ true =
      every_at 128 (λ k. cond (at_or_below (pos k) p) (same_player (player_of e k) (player_of w k)) true) (not-false _ f) c h in
      by_bool (at_or_below (pos c) p) (λ t. absurd (false≢true (sym d ∙ rw t at a))) (λ t. t)

teams_kept : (t wt : List ℤ) → loses_team t wt ≡ false → (c : ℕ) → c < 128 → has_team t c ≡ true → has_team wt c ≡ true
unfolding loses_team
teams_kept t wt f c h q =
    let a : cond (has_team t c) (has_team wt c) true ≡ true =
    every_at 128 (λ k. cond (has_team t k) (has_team wt k) true) (not-false _ f) c h in
    rw q at a

-- who is wanted in a team is so in version 2
team_version : (v : Version) (wt : List ℤ) → team_without v wt ≡ false → (c : ℕ) → c < 128 → has_team wt c ≡ true → v ≡ V2
unfolding any_team
team_version V1 wt f c h q =
    let a = every_at 128 (λ k. not (has_team wt k)) (not-false _ f) c h in
    absurd (false≢true (ap not (sym q) ∙ a))
team_version V2 wt f c h q = refl

-- ---- a wanted board: tick u, entries w, teams wt

pub record Allowed (r : Reader) (u : ℤ) (w : Entries) : Type 0 where
  pub now : good_entries r.entries ≡ true
  pub wanted : good_entries w ≡ true
  pub reads : r.scalars.standing ≡ Open
  pub free : r.scalars.pending ≡ None
  pub tick : non_neg r.scalars.tick ≡ true
  pub to_tick : non_neg u ≡ true
  pub later : lt_z u r.scalars.tick ≡ false
  pub kept : (c : ℕ) → c < 128 → holds r.entries c ≡ true → holds w c ≡ true
  pub behind : player_behind r.scalars r.entries u w ≡ false

pub record AllowedTeams (v : Version) (t wt : List ℤ) : Type 0 where
  pub now : good_teams t ≡ true
  pub wanted : good_teams wt ≡ true
  pub kept : (c : ℕ) → c < 128 → has_team t c ≡ true → has_team wt c ≡ true
  pub version : (c : ℕ) → c < 128 → has_team wt c ≡ true → v ≡ V2

module _ (r : TeamReader) (u : ℤ) (w : Entries) (wt : List ℤ) (m : may_reach r (wanted u w wt) ≡ may) where
  abbrev s : Scalars
  s = r.reader.scalars

  abbrev e : Entries
  e = r.reader.entries

  -- the tests that it passes
  record Passed : Type 0 where
    reader : good_team_reader r ≡ true
    board : good_team_board (wanted u w wt) ≡ true
    reads : is_closed s.standing ≡ false
    free : is_pending s.pending ≡ false
    tick : tick_below s u ≡ false
    inputs : loses_input e w ≡ false
    teams : loses_team r.teams wt ≡ false
    version : team_without s.version wt ≡ false
    players : player_behind s e u w ≡ false

  passed : Passed
  unfolding may_reach
  passed =
      let a = passes BadState (good_team_reader r && good_team_board (wanted u w wt)) m in
      let b = avoids Closed (is_closed s.standing) a.1 in
      let c = avoids MidRecord (is_pending s.pending) b.1 in
      let d = avoids Unreachable (cant_reach s e r.teams u w wt) c.1 in
      let good = and-true (good_team_reader r) (good_team_board (wanted u w wt)) a.0 in
      let can = or-false (tick_below s u) _ d.0 in
      let inputs = or-false (loses_input e w) _ can.1 in
      let teams = or-false (loses_team r.teams wt) _ inputs.1 in
      let rest = or-false (team_without s.version wt) (player_behind s e u w) teams.1 in
      record {
        reader = good.0;
        board = good.1;
        reads = b.0;
        free = c.0;
        tick = can.0;
        inputs = inputs.0;
        teams = teams.0;
        version = rest.0;
        players = rest.1;
      }

  pub allowed : Allowed r.reader u w
  unfolding good_team_reader good_team_board good_reader good_board
  allowed =
      let p = passed in
      let reader = and-true (good_reader r.reader) (good_teams r.teams) p.reader in
      let other = and-true (good_board (board (Some u) w)) (good_teams wt) p.board in
      let mine = and-true (good_scalars s) (good_entries e) reader.0 in
      let its = and-true (non_neg u) (good_entries w) other.0 in
      record {
        now = mine.1;
        wanted = its.1;
        reads = not_closed s.standing p.reads;
        free = not_pending s.pending p.free;
        tick = good_tick_law s mine.0;
        to_tick = its.0;
        later = p.tick;
        kept = inputs_kept e w p.inputs;
        behind = p.players;
      }

  pub teams_allowed : AllowedTeams s.version r.teams wt
  unfolding good_team_reader good_team_board
  teams_allowed =
      let p = passed in
      record {
        now = (and-true (good_reader r.reader) (good_teams r.teams) p.reader).1;
        wanted = (and-true (good_board (board (Some u) w)) (good_teams wt) p.board).1;
        kept = teams_kept r.teams wt p.teams;
        version = team_version s.version wt p.version;
      }

-- at the wanted tick each player entry that differs is above the remembered client
module _ (r : Reader) (u : ℤ) (w : Entries) (a : Allowed r u w) (f : ForgetsBetween r.scalars) (here : r.scalars.tick ≡ u) where
  inside_rises : r.scalars.inside ≡ true → (c : ℕ) → c < 128 → same_player (player_of r.entries c) (player_of w c) ≡ false → Rises r c
  inside_rises i =
      let t : r.scalars.inside && same_int u r.scalars.tick ≡ true =
      and_both _ _ i (ap (same_int u) here ∙ same_refl u) in
      differs_above r.entries w r.scalars.remembered (second_false _ _ a.behind t)

  outside_rises : r.scalars.inside ≡ false → (c : ℕ) → Rises r c
  outside_rises o c = ap (at_or_below (pos c)) (f a.reads o a.free)

  pub rises_here : (c : ℕ) → c < 128 → same_player (player_of r.entries c) (player_of w c) ≡ false → Rises r c
  rises_here c h d = by_bool r.scalars.inside (λ i. inside_rises i c h d) (λ o. outside_rises o c)
