-- The version stays, nobody loses a team, and version 1 has none to give: a clause for each act, then any list of calls. Assumes nothing.
use Rattle.std.specs.Prelude.{Option, Some, None}
use Prim.Native.Nat.{ℕ}
use mathlib.Core.Path.{◌≡◌, refl, sym, ap, subst, ◌∙◌}
use mathlib.Core.Bool.{Bool, true, false, false≢true}
use mathlib.Core.List.{List, [], ◌∷◌, ◌++◌}
use native.Mathlib.Omega.{arith}
use lib.IntN.{ℤ, pos}
use Rattle.num.proofs.Cases.{by_bool}
use Rattle.packer.specs.declared.Part.{Part}
use Rattle.fields.specs.Fields.{Value, Reading, got, runs_out, refused, read_fields}
use Rattle.fields.proofs.Answers.{not_out, not_refused}
use Rattle.kinds.specs.declared.Version.{Version}
use Rattle.kinds.specs.declared.Version.TheVariants.{V1, V2}
use Rattle.kinds.specs.declared.Kind.{Kind}
use Rattle.kinds.specs.declared.Kind.TheVariants as kinds
use Rattle.item.specs.Said.{Said, gives, more, finish, refuses}
use Rattle.item.specs.Records.{Content, Rest, fields, extension, rest_of, as_content, read_as, read_rest}
use Rattle.item.specs.Contents.{by_tag}
use Rattle.item.specs.declared.Tag.{Tag}
use Rattle.item.specs.declared.Tag.TheVariants.{Plain}
use Rattle.written.proofs.KindLaws.{ex_only, kind_taken}
use Rattle.state.specs.State.{good_pending, good_scalars, good_entries, good_reader}
use Rattle.state.specs.declared.Memory.{Memory}
use Rattle.state.specs.Reading.{Event, Step, closing, raising, naming, starting, ending, skipping, next_kind, read_call, reader_after}
use Rattle.state.specs.Acts.{Had, Act, ReadAct}
use Rattle.state.specs.Acts as act
use Rattle.state.specs.declared.Entries.{Entries}
use Rattle.state.specs.declared.Scalars.{Scalars}
use Rattle.state.specs.declared.Reader.{Reader}
use Rattle.state.proofs.Every.{by_cond, left_of_law}
use Rattle.state.proofs.Goods.{good_pending_law}
use Rattle.state.proofs.Numbers.{picks_first, picks_second}
use Rattle.state.proofs.Theorems.{read_calls_are_acts}
use Rattle.teams.specs.Teams.{has_team, team_of, good_teams, nobody, is_player_team, joining_in, joining_of, teams_after}
use Rattle.teams.specs.Laws.{SoundTeams}
use Rattle.teams.specs.declared.TeamReader.{TeamReader}
use Rattle.teams.proofs.Theorems.{teams_stay}
use Rattle.calls.specs.Calls.{Call, call}
use Rattle.team_calls.specs.Reading.{TeamStep, teams_said, team_call, team_reader_after}
use Rattle.team_calls.specs.Lists.{next_team, team_after}
use Rattle.team_calls.specs.Never.{VersionStays, TeamsNeverLost, TeamsStayIn1}
use Rattle.team_calls.proofs.Above.{said_sound, first_left}

-- ---- what every call keeps, every list of calls keeps

lists_keep : (Q : TeamReader → Type 0) → ((r : TeamReader) (c : Call) → Q r → Q (next_team r c)) → (r : TeamReader) (list : List Call) → Q r
    → Q (team_after r list)
unfolding team_after
lists_keep Q keeps r [] q = q
lists_keep Q keeps r (c ∷ list) q = lists_keep Q keeps (next_team r c) list (keeps r c q)

-- ---- the version

module _ {s : Scalars} {e : Entries} {w : List ℕ} {last : Bool} (m : Memory) where
  act_version : {f : Memory → Step} → Act s e w last f → (f m).scalars.version ≡ s.version
  unfolding closing naming raising starting ending skipping
  act_version (act.wants_more l _) = refl
  act_version (act.finishes h o) = refl
  act_version (act.refuses_plain r _) = refl
  act_version (act.refuses_player r c _) = refl
  act_version (act.refuses_input r c _) = refl
  act_version (act.refuses13 _ _ b q) = refl
  act_version (act.tick_starts h q o) = refl
  act_version (act.tick_ends h q i b x) = refl
  act_version (act.last_tick_ends h i) = refl
  act_version (act.skip_starts h o x) = refl
  act_version (act.skip_ends h i x) = refl
  act_version (act.player_comes h i b o) = refl
  act_version (act.player_moves h i q x y) = refl
  act_version (act.player_leaves h i q) = refl
  act_version (act.input_comes h i q b) = refl
  act_version (act.input_moves h i q b) = refl
  act_version (act.passes h k i) = refl

one_version : {r : Reader} {w : List ℕ} {last : Bool} {t : Step} → ReadAct r w last t → t.scalars.version ≡ r.scalars.version
one_version (act.on_bad g) = refl
one_version (act.on_closed g c) = refl
one_version (act.on_open g o a) = act_version _ a

pub call_version : (r : Reader) (w : List ℕ) (last : Bool) → (reader_after (read_call r w last)).scalars.version ≡ r.scalars.version
call_version r w last = one_version (read_calls_are_acts r w last)

next_version : (r : TeamReader) (c : Call) → (next_team r c).reader.scalars.version ≡ r.reader.scalars.version
unfolding team_call
next_version r c =
    by_cond (λ (t : TeamStep). (team_reader_after t).reader.scalars.version ≡ r.reader.scalars.version) (good_teams r.teams)
    (λ _. call_version r.reader c.window c.last) (λ _. refl)

pub version_stays : VersionStays
version_stays r list =
    lists_keep (λ q. q.reader.scalars.version ≡ r.reader.scalars.version) (λ q c e. next_version q c ∙ e) r list refl

-- ---- nobody loses a team

no_number : {n : ℤ} → Some n ≡ None → ⊥
no_number e = let z : ◌≡◌ {A = ℕ} 0 1 = cc in omega arith

module _ (t : List ℤ) (c : ℕ) where
  pub has_some : has_team t c ≡ true → team_of t (pos c) ≡ None → ⊥
  has_some h e = no_number (picks_first (has_team t c) _ None h ∙ e)

  pub some_has : (team_of t (pos c) ≡ None → ⊥) → has_team t c ≡ true
  some_has n = by_bool (has_team t c) (λ q. q) (λ q. absurd (n (sym (picks_second (has_team t c) _ None q))))

said_stays : (a : Said Event) (t : List ℤ) (c : ℕ) → SoundTeams t → has_team t c ≡ true → has_team (teams_said a t) c ≡ true
said_stays (gives e n) t c s h = some_has (teams_after e t) c (teams_stay e t (pos c) s.size (has_some t c h))
said_stays more t c s h = h
said_stays (finish n) t c s h = h
said_stays (refuses k vs) t c s h = h

record Has (c : ℕ) (t : List ℤ) : Type 0 where
  sound : SoundTeams t
  has : has_team t c ≡ true

pub teams_never_lost : TeamsNeverLost
teams_never_lost r list c s h =
    (lists_keep (λ q. Has c q.teams)
    (λ q k x.
    let a = (call q.reader k).said in
    subst (λ (z : TeamReader). Has c z.teams) (sym (first_left q k x.sound))
    (record { sound = said_sound a q.teams x.sound; has = said_stays a q.teams c x.sound x.has }))
    r list (record { sound = s; has = h })).has

-- ---- version 1: no extension is read

kind_no_ex : (v : Version) (p : Option Kind) (w : List ℕ) (n : ℕ) → v ≡ V1 → good_pending v p ≡ true → next_kind v p w ≡ got kinds.Ex n → ⊥
unfolding next_kind
kind_no_ex V1 None w n e g q = false≢true (kind_taken V1 w 0 (omega arith) kinds.Ex n q).allowed
kind_no_ex V1 (Some k) w n e g q = let z : k ≡ kinds.Ex = cc in false≢true (rw z at g)
kind_no_ex V2 p w n e g q = let z : ◌≡◌ {A = ℕ} 0 1 = cc in omega arith

-- a record of another kind is none
plain_joins : (t : Tag) (k : Kind) → t ≡ Plain k → by_tag (λ kind. false) is_player_team false t ≡ false
plain_joins t k e = rw e

plain_content : (k : Kind) (x : Reading (List (Value Part))) (r : Content Part) (n : ℕ) → as_content (Plain k) x ≡ got r n → r.tag ≡ Plain k
plain_content k (got vs m) r n e = cc
plain_content k runs_out r n e = not_out e
plain_content k (refused why) r n e = not_refused e

plain_rest : (k : Kind) (rest : Rest) → rest_of k ≡ rest → (k ≡ kinds.Ex → ⊥) → (w : List ℕ) (at : ℕ) (r : Content Part) (n : ℕ)
    → read_as w k rest at ≡ got r n → r.tag ≡ Plain k
plain_rest k (fields fs gs) q other w at r n e = plain_content k (read_fields (fs ++ gs) w at) r n e
plain_rest k extension q other w at r n e = absurd (other (ex_only k q))

had_none : {s : Scalars} {w : List ℕ} {k : Kind} {r : Content Part} {n : ℕ} → Had s w k r n → s.version ≡ V1
    → good_pending s.version s.pending ≡ true → joining_in r ≡ nobody
unfolding read_rest
had_none {s} {w} {k} {r} {n} h v g =
    let other : k ≡ kinds.Ex → ⊥ = λ e. kind_no_ex s.version s.pending w h.at v g (h.kind.read ∙ ap (λ (x : Kind). got x h.at) e) in
    sym (picks_second _ _ nobody (plain_joins r.tag k (plain_rest k (rest_of k) refl other w h.at r n h.rest)))

none_after : (e : Event) (t : List ℤ) → joining_of e ≡ nobody → teams_after e t ≡ t
unfolding teams_after
none_after e t q = rw q

module _ {s : Scalars} {e : Entries} {w : List ℕ} {last : Bool} (m : Memory) (v : s.version ≡ V1) (g : good_pending s.version s.pending ≡ true) (t : List ℤ) where
  act_none : {f : Memory → Step} → Act s e w last f → teams_said (f m).said t ≡ t
  act_none (act.wants_more l _) = refl
  act_none (act.finishes h o) = refl
  act_none (act.refuses_plain r _) = refl
  act_none (act.refuses_player r c _) = refl
  act_none (act.refuses_input r c _) = refl
  act_none (act.refuses13 _ _ b q) = refl
  act_none (act.tick_starts h q o) = none_after _ t refl
  act_none (act.tick_ends h q i b x) = none_after _ t refl
  act_none (act.last_tick_ends h i) = none_after _ t refl
  act_none (act.skip_starts h o x) = none_after _ t refl
  act_none (act.skip_ends h i x) = none_after _ t refl
  act_none (act.player_comes h i b o) = none_after _ t refl
  act_none (act.player_moves h i q x y) = none_after _ t refl
  act_none (act.player_leaves h i q) = none_after _ t refl
  act_none (act.input_comes h i q b) = none_after _ t refl
  act_none (act.input_moves h i q b) = none_after _ t refl
  act_none (act.passes h k i) = none_after _ t (had_none h v g)

good_waits : (r : Reader) → good_reader r ≡ true → good_pending r.scalars.version r.scalars.pending ≡ true
unfolding good_reader
good_waits r g = good_pending_law r.scalars (left_of_law (good_scalars r.scalars) (good_entries r.entries) g)

one_none : {r : Reader} {w : List ℕ} {last : Bool} {x : Step} (t : List ℤ) → ReadAct r w last x → r.scalars.version ≡ V1
    → teams_said x.said t ≡ t
one_none t (act.on_bad g) v = refl
one_none t (act.on_closed g c) v = refl
one_none {r} t (act.on_open g o a) v = act_none _ v (good_waits r g) t a

next_none : (r : TeamReader) (c : Call) → r.reader.scalars.version ≡ V1 → (next_team r c).teams ≡ r.teams
unfolding team_call
next_none r c v =
    by_cond (λ (t : TeamStep). t.teams ≡ r.teams) (good_teams r.teams)
    (λ _. one_none r.teams (read_calls_are_acts r.reader c.window c.last) v) (λ _. refl)

record In1 (t : List ℤ) (r : TeamReader) : Type 0 where
  version : r.reader.scalars.version ≡ V1
  teams : r.teams ≡ t

pub teams_stay_in_1 : TeamsStayIn1
teams_stay_in_1 r list v =
    (lists_keep (In1 r.teams)
    (λ q c x. record { version = next_version q c ∙ x.version; teams = next_none q c x.version ∙ x.teams })
    r list (record { version = v; teams = refl })).teams
