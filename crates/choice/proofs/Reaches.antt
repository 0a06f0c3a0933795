-- The chosen records bring a reader that was reached by reading to the wanted board. Assumes nothing.
use Prim.Native.Nat.{ℕ}
use mathlib.Core.Path.{◌≡◌, refl, sym, ap, subst, ◌∙◌}
use mathlib.Core.Bool.{Bool, true, false, ◌||◌}
use mathlib.Core.List.{List, [], ◌∷◌, ◌++◌, append_assoc}
use lib.ListN.{get_or}
use lib.IntN.{ℤ, pos}
use mir.Syntax.{w32}
use mir.Val.{SFits}
use Rattle.kinds.specs.declared.Version.{Version}
use Rattle.state.specs.State.{empty_reader}
use Rattle.state.specs.Laws.{ForgetsBetween}
use Rattle.state.specs.declared.Entries.{Entries}
use Rattle.state.specs.declared.Reader.{Reader}
use Rattle.teams.specs.Teams.{Joining, team_reader, no_teams, empty_team_reader}
use Rattle.teams.specs.Laws.{SoundTeams}
use Rattle.teams.specs.declared.TeamReader.{TeamReader}
use Rattle.teams.proofs.Theorems.{no_teams_sound}
use Rattle.calls.specs.Calls.{Call}
use Rattle.calls.proofs.Theorems.{reached_forget_between}
use Rattle.team_calls.specs.Lists.{team_after}
use Rattle.team_calls.proofs.Theorems.{teams_above, reached_teams_sound}
use Rattle.back.specs.Board.{board, tick_of, board_of}
use Rattle.back.specs.TeamBoard.{team_board}
use Rattle.back.specs.declared.TeamBoard.{TeamBoard}
use Rattle.choice.specs.Chosen.{
  Rec,
  changes,
  all_changes,
  skip_to,
  started_by,
  empty_command,
  start_if,
  is_some,
  chosen,
  bytes_of,
}
use Rattle.choice.specs.Reaching.{choice}
use Rattle.leading.specs.Leads.{Leads, after_joinings}
use Rattle.leading.specs.Records.{Ready}
use Rattle.leading.proofs.Theorems.{command_leads, leads_join, leads_in_windows, leads_end}
use Rattle.choice.specs.Laws.{wanted, OfReached, ChoiceReaches, ChoiceEnds}
use Rattle.choice.proofs.Splice.{over}
use Rattle.choice.proofs.Lengths.{bytes_append}
use Rattle.choice.proofs.Passes.{Between, joinings_append, leads_version, Comes, none, one, so, join}
use Rattle.choice.proofs.Players.{Before, players_come}
use Rattle.choice.proofs.Inputs.{inputs_come}
use Rattle.choice.proofs.Allowed.{AllowedTeams, allowed, teams_allowed}
use Rattle.choice.proofs.Teams.{With, teams_come}
use Rattle.choice.proofs.Skips.{Skipped, skipped}

-- ---- at the wanted tick: the changes, then what starts it if nothing else does

abbrev is_started : Reader → ℤ → Bool
is_started r u = started_by r.scalars.inside r.scalars.tick u

abbrev start : Reader → ℤ → List Rec → List Rec
start r u cs = start_if (is_started r u) (is_some cs)

under_way_law : (started : Bool) (cs : List Rec) → started || is_some (cs ++ start_if started (is_some cs)) ≡ true
under_way_law true cs = refl
under_way_law false [] = refl
under_way_law false (c ∷ cs) = refl

starts : (w : Entries) (ts : List ℤ) (started changed : Bool) (q : Reader) → Ready q → q.entries ≡ w
    → Comes (λ t. t.entries ≡ w) q ts (start_if started changed) ts
starts w ts true changed q ready p = none q ready p
starts w ts false true q ready p = none q ready p
starts w ts false false q ready p = one empty_command (command_leads q ready) (λ t _ _ holds. holds ∙ p)

-- ---- the chosen records

-- they lead to a reader with the wanted board, and to the wanted teams
record Reached (r : TeamReader) (b : TeamBoard) : Type 0 where
  to : Reader
  says : List Joining
  leads : Leads r.reader (choice r b) says to
  ready : Ready to
  shows : team_board (board_of to) (after_joinings says r.teams) ≡ b

-- teams that are sound, those now and the wanted ones
record BetweenTeams (t wt : List ℤ) : Type 0 where
  now : SoundTeams t
  next : SoundTeams wt
  fits : (i : ℕ) → SFits w32 (get_or wt i (pos 0))

-- a reader r with the teams t, brought to tick u
module _ (r : Reader) (t : List ℤ) (u : ℤ) (w : Entries) (wt : List ℤ) (b : Between r.entries w) (k : BetweenTeams t wt)
    (a : AllowedTeams r.scalars.version t wt) (s : Skipped r u w) where
  before : Before r.entries w 0 s.to
  unfolding over
  before = record { holds = s.holds; rises = λ c _ h d. s.rises c h d }

  -- the entries, then the teams
  entries_changed : Comes (With w r.scalars.version) s.to t (changes r.entries w) t
  unfolding changes
  entries_changed =
      so (λ q version holds. record { holds = holds; version = version ∙ leads_version s.leads })
      (join (players_come r.entries w b t s.to s.ready before) (λ q ready i. inputs_come r.entries w b t q ready i.holds))

  abbrev all : List Rec
  all = all_changes r.entries t w wt

  changed : Comes (λ q. q.entries ≡ w) s.to t all wt
  unfolding all_changes
  changed =
      so (λ q _ i. i.holds)
      (join entries_changed
      (λ q ready i. teams_come w r.scalars.version t wt k.now k.next k.fits a q ready i.holds i.version))

  started : Comes (λ q. q.entries ≡ w) s.to t (all ++ start r u all) wt
  started = join changed (starts w wt (is_started r u) (is_some all))

  reached : Reached (team_reader r t) (wanted u w wt)
  unfolding choice chosen board_of
  reached =
      let skip = skip_to r.scalars.tick u in
      let x = started in
      let split : bytes_of (chosen r.scalars r.entries t u w wt) ≡ bytes_of skip ++ bytes_of (all ++ start r u all) =
      ap bytes_of (append_assoc skip all (start r u all)) ∙ bytes_append skip (all ++ start r u all) in
      let inside : x.to.scalars.inside ≡ true =
      x.within ∙ ap (λ (t : Bool). t || is_some (all ++ start r u all)) s.within ∙ under_way_law (is_started r u) all in
      let teams : after_joinings (s.says ++ x.says) t ≡ wt =
      joinings_append s.says x.says t ∙ ap (after_joinings x.says) (s.joins t) ∙ x.joins in
      record {
        to = x.to;
        says = s.says ++ x.says;
        leads = rw split (leads_join r s.to x.to (bytes_of skip) (bytes_of (all ++ start r u all)) s.says x.says s.leads x.leads);
        ready = x.ready;
        shows = λ i. team_board (board (tick_of (inside i) ((x.at ∙ s.at) i)) (x.keeps i)) (teams i);
      }

-- ---- a reader that was reached by reading

forgets : (v : Version) (list : List Call) → ForgetsBetween (team_after (empty_team_reader v) list).reader.scalars
unfolding empty_team_reader
forgets v list =
    subst (λ (q : TeamReader). ForgetsBetween q.reader.scalars) (sym (teams_above (team_reader (empty_reader v) no_teams) list no_teams_sound).left)
    (reached_forget_between v list)

of_reached : OfReached Reached
of_reached v list u w wt typed m =
    let r = team_after (empty_team_reader v) list in
    let sound = reached_teams_sound v list in
    let a = allowed r u w wt m in
    let teams = teams_allowed r u w wt m in
    let ready : Ready r.reader = record { sound = sound.reader; reads = a.reads; free = a.free } in
    let b : Between r.reader.entries w =
    record {
      now = a.now;
      wanted = a.wanted;
      now_sizes = sound.reader.sizes;
      wanted_sizes = typed.sizes;
      xs = typed.xs;
      ys = typed.ys;
      inputs = typed.inputs;
      kept = a.kept;
    } in
    let k : BetweenTeams r.teams wt =
    record { now = sound.teams; next = record { good = teams.wanted; size = typed.size }; fits = typed.teams } in
    reached r.reader r.teams u w wt b k teams (skipped r.reader u w ready a typed.tick (forgets v list))

pub choice_reaches : ChoiceReaches
choice_reaches v list u w wt typed m cuts =
    let r = team_after (empty_team_reader v) list in
    let x = of_reached v list u w wt typed m in
    rw x.shows at
    (leads_in_windows r.reader x.to r.teams (choice r (wanted u w wt)) x.says (reached_teams_sound v list).teams x.leads x.ready.free cuts)

pub choice_ends : ChoiceEnds
choice_ends v list u w wt typed m =
    let r = team_after (empty_team_reader v) list in
    let x = of_reached v list u w wt typed m in
    leads_end r.reader x.to r.teams (choice r (wanted u w wt)) x.says (reached_teams_sound v list).teams x.leads x.ready.free
