-- Lists of calls. A reader that a refusal closed stays so: where the last one is open or finished, no call was refused 13. Assumes nothing.
use mathlib.Core.Path.{◌≡◌, refl, sym, subst, ap, ◌∙◌}
use mathlib.Core.Bool.{Bool, true, false, false≢true, ◌||◌}
use mathlib.Core.List.{List, [], ◌∷◌, ◌++◌, append_assoc, append-nil}
use Prim.Native.Nat.{ℕ}
use Rattle.item.specs.Said.{Said, gives, more, finish, refuses}
use Rattle.kinds.specs.declared.Version.{Version}
use Rattle.state.specs.State.{with_entries, empty_reader}
use Rattle.state.specs.declared.Memory.{Memory}
use Rattle.state.specs.Reading.{Event, Step, is_closed, reader_after}
use Rattle.state.specs.Laws.{SaidLeaves}
use Rattle.state.specs.Acts.{ReadAct}
use Rattle.state.specs.Acts as act
use Rattle.state.specs.steps.Parts.{memory_of}
use Rattle.state.specs.declared.Standing.{Standing}
use Rattle.state.specs.declared.Standing.TheVariants as standings
use Rattle.state.specs.declared.Scalars.{Scalars}
use Rattle.state.specs.declared.Reader.{Reader}
use Rattle.state.proofs.Acts.{read_acts}
use Rattle.state.proofs.Calls.{keeps}
use Rattle.teams.specs.Teams.{no_teams, team_reader, empty_team_reader}
use Rattle.teams.specs.declared.TeamReader.{TeamReader}
use Rattle.teams.proofs.Theorems.{no_teams_sound}
use Rattle.calls.specs.Calls.{Call, call, next, after}
use Rattle.team_calls.specs.Lists.{TeamSeen, next_team, team_event_of, team_after, team_events}
use Rattle.team_calls.specs.Laws.{SoundTeamReader}
use Rattle.team_calls.proofs.Theorems.{teams_above, reached_teams_sound}
use Rattle.demand.specs.Events.{is13, meets13}
use Rattle.demand.specs.TeamEvents.{team_meets13}
use Rattle.demand.proofs.Theorem.{team_after_append, meets_same}
use Rattle.rewinding.specs.Rewinding.{closed_by_refusal}

-- ---- lists of calls

pub events_append : (r : TeamReader) (a b : List Call) → team_events r (a ++ b) ≡ team_events (team_after r a) b ++ team_events r a
unfolding team_after team_events
events_append r [] b = sym (append-nil (team_events r b))
events_append r (c ∷ a) b =
    ap (λ (l : List TeamSeen). l ++ team_event_of r c) (events_append (next_team r c) a b)
    ∙ append_assoc (team_events (team_after (next_team r c) a) b) (team_events (next_team r c) a) (team_event_of r c)

-- by calls from an empty reader, cut anywhere
pub cut_sound : (v : Version) (before since : List Call) → SoundTeamReader (team_after (team_after (empty_team_reader v) before) since)
cut_sound v before since = subst SoundTeamReader (team_after_append (empty_team_reader v) before since) (reached_teams_sound v (before ++ since))

-- ---- one call

-- what a call comes to: of a reader that a refusal closed it changes nothing; a refusal 13 is one that closes
pub record Marks (r : Reader) (t : Step) : Type 0 where
  pub stays : closed_by_refusal r.scalars.standing ≡ true → reader_after t ≡ r
  pub marks : is13 t.said ≡ true → closed_by_refusal (reader_after t).scalars.standing ≡ true

module _ (s : Scalars) (m : Memory) (last : Bool) (t : Step) where
  by_said : (x : Said Event) → is13 x ≡ true → SaidLeaves x s m last t → closed_by_refusal t.scalars.standing ≡ true
  by_said (gives e n) h told = absurd (false≢true h)
  by_said more h told = absurd (false≢true h)
  by_said (finish n) h told = absurd (false≢true h)
  by_said (refuses k vs) h told = rw told.0

open_is : (x : Standing) → is_closed x ≡ false → closed_by_refusal x ≡ true → ⊥
open_is standings.Open o c = false≢true c
open_is standings.Finished o c = false≢true c
open_is standings.Refused o c = false≢true (sym o)

marked : {r : Reader} {w : List ℕ} {last : Bool} {t : Step} → ReadAct r w last t → Marks r t
marked (act.on_bad g) = record { stays = λ _. refl; marks = λ h. absurd (false≢true h) }
marked (act.on_closed g c) = record { stays = λ _. refl; marks = λ h. absurd (false≢true h) }
marked {r} {w} {last} (act.on_open {f} g o a) =
    let m = memory_of r.entries in
    record {
      stays = λ c. absurd (open_is r.scalars.standing o c);
      marks = λ h. by_said r.scalars (with_entries r.entries m) last (f m) (f m).said h (keeps r.scalars r.entries w last m a).told;
    }

-- ---- a list of calls

call_marked : (r : Reader) (c : Call) → Marks r (call r c)
call_marked r c = marked (read_acts r c.window c.last)

stuck : (cs : List Call) {r : Reader} → closed_by_refusal r.scalars.standing ≡ true → after r cs ≡ r
unfolding after
stuck [] h = refl
stuck (c ∷ cs) {r} h =
    let e = (call_marked r c).stays h in
    stuck cs (subst (λ (x : Reader). closed_by_refusal x.scalars.standing ≡ true) (sym e) h) ∙ e

quiet_from : (b : Bool) (r : Reader) (c : Call) (cs : List Call) → is13 (call r c).said ≡ b
    → closed_by_refusal (after (next r c) cs).scalars.standing ≡ false → meets13 (next r c) cs ≡ false → (b || meets13 (next r c) cs) ≡ false
quiet_from true r c cs e h q =
    let closed = (call_marked r c).marks e in
    absurd (false≢true (sym h ∙ ap (λ (x : Reader). closed_by_refusal x.scalars.standing) (stuck cs closed) ∙ closed))
quiet_from false r c cs e h q = q

quiet : (cs : List Call) (r : Reader) → closed_by_refusal (after r cs).scalars.standing ≡ false → meets13 r cs ≡ false
unfolding after meets13
quiet [] r h = refl
quiet (c ∷ cs) r h = quiet_from (is13 (call r c).said) r c cs refl h (quiet cs (next r c) h)

-- the same of calls with teams from an empty reader
pub cut_quiet : (v : Version) (cs : List Call) → closed_by_refusal (team_after (empty_team_reader v) cs).reader.scalars.standing ≡ false
    → team_meets13 (empty_team_reader v) cs ≡ false
unfolding empty_team_reader
cut_quiet v cs h =
    let r = team_reader (empty_reader v) no_teams in
    meets_same cs r no_teams_sound
    ∙ quiet cs (empty_reader v) (ap (λ (x : TeamReader). closed_by_refusal x.reader.scalars.standing) (sym (teams_above r cs no_teams_sound).left) ∙ h)
