-- What is refused 23 can't be done: the theorem, from what reading calls never undo. Assumes nothing.
use Rattle.std.specs.Prelude.{Some}
use Prim.Native.Nat.{ℕ}
use mathlib.Core.Path.{◌≡◌, refl, sym, ap, ◌∙◌}
use mathlib.Core.Bool.{Bool, true, false, not, cond, ◌&&◌, ◌||◌, false≢true}
use mathlib.Core.List.{List}
use native.Mathlib.Omega.{arith}
use lib.IntN.{ℤ, pos}
use lib.Signed.{lt_z}
use borrow.Author.Tests.{eq-eqb}
use Rattle.num.proofs.Cases.{by_bool}
use Rattle.kinds.specs.declared.Version.{Version}
use Rattle.kinds.specs.declared.Version.TheVariants.{V1, V2}
use Rattle.state.specs.State.{same_int, holds}
use Rattle.state.specs.Reading.{at_or_below}
use Rattle.state.specs.declared.Entries.{Entries}
use Rattle.state.specs.declared.Reader.{Reader}
use Rattle.state.proofs.Every.{every_from}
use Rattle.teams.specs.Teams.{has_team, no_teams, empty_team_reader}
use Rattle.teams.specs.Laws.{SoundTeams}
use Rattle.teams.specs.declared.TeamReader.{TeamReader}
use Rattle.teams.proofs.Theorems.{no_teams_none}
use Rattle.calls.specs.Calls.{Call, after}
use Rattle.team_calls.specs.Lists.{team_after}
use Rattle.team_calls.proofs.Never.{has_some}
use Rattle.team_calls.proofs.Theorems.{teams_above, version_stays, teams_never_lost, teams_stay_in_1}
use Rattle.back.specs.Board.{tick_of, board_of}
use Rattle.back.specs.declared.Board.{Board}
use Rattle.back.specs.declared.TeamBoard.{TeamBoard}
use Rattle.demand.proofs.Tests.{and-true, and_both, same_refl, same_true}
use Rattle.choice.specs.Chosen.{player_of, same_player}
use Rattle.choice.specs.declared.Player.{Player}
use Rattle.choice.specs.Reaching.{tick_below, loses_input, loses_team, any_team, team_without, differs_behind, cant_reach}
use Rattle.choice.specs.Laws.{NoTeamsIn1, CantBeDone, ReachedNoTeamsIn1}
use Rattle.calls.specs.Never.{SamePlayer}
use Rattle.calls.proofs.Theorems.{ticks_rise, inputs_stay, players_stay}

pub same_player_law : (p q : Player) → q ≡ p → same_player p q ≡ true
same_player_law p q e =
    ap (λ (x : Player). same_player p x) e
    ∙ and_both _ _ (eq-eqb p.mark p.mark refl) (and_both _ _ (same_refl p.x) (same_refl p.y))

-- its three numbers are a player entry
player_is : (d e : Entries) (c : ℕ) → SamePlayer d e c → player_of e c ≡ player_of d c
player_is d e c s = λ i. record { mark = s.mark i; x = s.x i; y = s.y i }

none_of : (a b c d e : Bool) → a ≡ false → b ≡ false → c ≡ false → d ≡ false → e ≡ false → (a || (b || (c || (d || e)))) ≡ false
none_of a b c d e p q r s t = rw (p, q, r, s, t)

pub both_not : (a b : Bool) → (a ≡ true → b ≡ false) → (a && b) ≡ false
both_not true b f = f refl
both_not false b f = refl

module _ (r : Reader) (list : List Call) where
  abbrev then : Reader
  then = after r list

  keeps_inputs : loses_input r.entries then.entries ≡ false
  unfolding loses_input
  keeps_inputs =
      ap not
      (every_from 128 (λ c. cond (holds r.entries c) (holds then.entries c) true)
      (λ c h. by_bool (holds r.entries c) (λ q. rw q (inputs_stay r list c q)) (λ q. rw q)))

  keeps_players : r.scalars.inside ≡ true → then.scalars.inside ≡ true → then.scalars.tick ≡ r.scalars.tick
      → differs_behind r.scalars.remembered r.entries then.entries ≡ false
  unfolding differs_behind
  keeps_players i j n =
      let p = r.scalars.remembered in
      ap not
      (every_from 128 (λ c. cond (at_or_below (pos c) p) (same_player (player_of r.entries c) (player_of then.entries c)) true)
      (λ c h. by_bool (at_or_below (pos c) p)
      (λ q. rw q (same_player_law (player_of r.entries c) (player_of then.entries c) (player_is r.entries then.entries c (players_stay r list i j n c q).1)))
      (λ q. rw q)))

  -- with teams that are none of the two hindrances
  can : (u : ℤ) (t wt : List ℤ) → loses_team t wt ≡ false → team_without r.scalars.version wt ≡ false → then.scalars.inside ≡ true
      → then.scalars.tick ≡ u → cant_reach r.scalars r.entries t u then.entries wt ≡ false
  can u ts wt l v i n =
      let t = r.scalars.tick in
      let differs = differs_behind r.scalars.remembered r.entries then.entries in
      let stay : (r.scalars.inside && same_int u t) ≡ true → differs ≡ false =
      λ q.
      let b = and-true r.scalars.inside (same_int u t) q in
      keeps_players b.0 i (n ∙ same_true u t b.1) in
      none_of (tick_below r.scalars u) _ (loses_team ts wt) (team_without r.scalars.version wt) _
      (ap (λ (z : ℤ). lt_z z t) (sym n) ∙ ticks_rise r list) keeps_inputs l v
      (both_not (r.scalars.inside && same_int u t) differs stay)

pub inside_at : (i : Bool) (t u : ℤ) → tick_of i t ≡ Some u → (i ≡ true) × (t ≡ u)
inside_at true t u e = (refl, cc)
inside_at false t u e = absurd (let z : ◌≡◌ {A = ℕ} 0 1 = cc in omega arith)

-- ---- teams

nobody_has : (v : Version) (t : List ℤ) → (v ≡ V1 → (c : ℕ) → has_team t c ≡ false) → team_without v t ≡ false
unfolding any_team
nobody_has V1 t none = ap not (every_from 128 (λ c. not (has_team t c)) (λ c h. ap not (none refl c)))
nobody_has V2 t none = refl

module _ (r : TeamReader) (list : List Call) (s : SoundTeams r.teams) where
  abbrev then_team : TeamReader
  then_team = team_after r list

  keeps_teams : loses_team r.teams then_team.teams ≡ false
  unfolding loses_team
  keeps_teams =
      ap not
      (every_from 128 (λ c. cond (has_team r.teams c) (has_team then_team.teams c) true)
      (λ c h. by_bool (has_team r.teams c) (λ q. rw q (teams_never_lost r list c s q)) (λ q. rw q)))

  no_teams_law : NoTeamsIn1 r → team_without r.reader.scalars.version then_team.teams ≡ false
  no_teams_law none =
      nobody_has r.reader.scalars.version then_team.teams
      (λ v c. ap (λ (t : List ℤ). has_team t c) (teams_stay_in_1 r list v) ∙ none v c)

  -- without teams it is the reader after the calls
  same_reader : then_team.reader ≡ after r.reader list
  same_reader = ap (λ (q : TeamReader). q.reader) (teams_above r list s).left

pub cant_be_done : CantBeDone
unfolding board_of
cant_be_done r u w wt s none c list e =
    let z = after r.reader list in
    let x = team_after r list in
    let same : board_of z ≡ board_of x.reader = ap board_of (sym (same_reader r list s)) in
    let shown : board_of z ≡ _ = same ∙ ap (λ (y : TeamBoard). y.board) e in
    let b = inside_at z.scalars.inside z.scalars.tick u (ap (λ (y : Board). y.tick) shown) in
    let f : z.entries ≡ w = ap (λ (y : Board). y.entries) shown in
    let g : x.teams ≡ wt = ap (λ (y : TeamBoard). y.teams) e in
    let reached = can r.reader list u r.teams x.teams (keeps_teams r list s) (no_teams_law r list s none) b.0 b.1 in
    false≢true (sym reached ∙ (λ k. cant_reach r.reader.scalars r.reader.entries r.teams u (f k) (g k)) ∙ c)

-- ---- reached by reading in version 1

none_has : (c : ℕ) → has_team no_teams c ≡ false
none_has c = by_bool (has_team no_teams c) (λ q. absurd (has_some no_teams c q (no_teams_none (pos c)))) (λ q. q)

pub reached_no_teams_in_1 : ReachedNoTeamsIn1
unfolding empty_team_reader
reached_no_teams_in_1 v list e c =
    let r = empty_team_reader v in
    ap (λ (t : List ℤ). has_team t c) (teams_stay_in_1 r list (sym (version_stays r list) ∙ e)) ∙ none_has c
