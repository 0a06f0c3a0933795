-- How far calls of 4,096 events have counted. Assumes nothing.
use Prim.Native.Nat.{ℕ, ◌+◌, ◌*◌, ◌-◌, ◌≤◌, ◌<◌, zero-le}
use native.Mathlib.Omega.{arith}
use mathlib.Core.Path.{◌≡◌, refl, sym, ap, ◌∙◌}
use mathlib.Core.Bool.{true, false, cond}
use mathlib.Core.List.{List}
use lib.ListN.{length, drop, length-append, length-drop}
use lib.IntN.{ℤ}
use lib.Seq.{drop-drop}
use Rattle.kinds.specs.declared.Version.{Version}
use Rattle.teams.specs.Teams.{empty_team_reader}
use Rattle.teams.specs.Laws.{SoundTeams}
use Rattle.teams.specs.declared.TeamReader.{TeamReader}
use Rattle.teams.proofs.Theorems.{no_teams_sound}
use Rattle.calls.specs.Along.{Halt, is_full, wants_more, finishes, is_refused, Run, all_of, calls}
use Rattle.calls.specs.Laws.{continued}
use Rattle.calls.proofs.Theorems.{runs_split, few_events, run_within}
use Rattle.rows.specs.Rows.{room}
use Rattle.many.specs.Many.{many_calls, halt_of, ManyIs}
use Rattle.many.specs.declared.ManyAnswer.{ManyAnswer}
use Rattle.many.proofs.Edges.{with_room, good_teams_law, over_sound}
use Rattle.count.specs.Count.{most, event_count}
use Rattle.count.proofs.Runs.{sees_all, events, no_calls, most_calls_law}
use Rattle.count.proofs.Singles.{window_at, whole}
use Rattle.count_many.specs.steps.Ends.{not_full}

-- so many events were counted, and the rest is counted from the reader and the place reached, in so many turns at most
pub record Far (v : Version) (body : List ℕ) (r : TeamReader) (at count turns : ℕ) : Type 0 where
  pub teams : SoundTeams r.teams
  pub within : at ≤ length body
  pub bound : count + 4096 * turns ≤ most
  pub rest : event_count v body ≡ count + events (4096 * turns) r.reader (drop at body)

pub far_start : (v : Version) (body : List ℕ) → Far v body (empty_team_reader v) 0 0 1125899906842624
unfolding empty_team_reader
far_start v body = record { teams = no_teams_sound; within = zero-le; bound = omega arith; rest = omega (arith, most_calls_law v body) }

continued_count : (h : Halt) (a b : Run) → length (continued h a b).seen ≡ cond (not_full h) (length a.seen) (length a.seen + length b.seen)
continued_count is_full a b = length-append a.seen b.seen
continued_count wants_more a b = refl
continued_count finishes a b = refl
continued_count (is_refused k vs) a b = refl

module _ (v : Version) (body : List ℕ) (r : TeamReader) (at count turns : ℕ) (f : Far v body r at count turns) where
  pub far_full : turns ≤ 0 → count ≡ event_count v body
  far_full h =
      let e : 4096 * turns ≡ 0 = omega (arith, h) in
      let s : event_count v body ≡ count + events 0 r.reader (drop at body) = rw e at f.rest in
      omega (arith, s, no_calls r.reader (drop at body))

  module _
      (h : 0 < turns)
      (rows tens rows₁ tens₁ : List ℤ)
      (l : length rows ≡ 32768)
      (m : length tens ≡ 81920)
      (a : ManyAnswer)
      (told : ManyIs (many_calls (room rows tens) r (window_at body at) true) r.teams rows tens a rows₁ tens₁) where
    abbrev run : Run
    run = calls 4096 r.reader (drop at body) true

    fits : room rows tens ≡ 4096
    fits = rw (l, m)

    t : ManyIs run r.teams rows tens a rows₁ tens₁
    t = rw (fits, whole body at, with_room 4096 r (drop at body) true (omega arith), good_teams_law 4096 r (drop at body) true f.teams.good) at told

    -- the rest is this call and what follows it
    rest :
        event_count v body
        ≡ count + cond (not_full run.halt) (length run.seen) (length run.seen + events (4096 * (turns - 1)) run.reader (drop run.used (drop at body)))
    rest =
        let n = 4096 * (turns - 1) in
        let e : 4096 * turns ≡ 4096 + n = omega (arith, h) in
        let p = ap (λ (x : Run). length x.seen) (runs_split (all_of true) 4096 n r.reader (drop at body))
        ∙ continued_count run.halt run (calls n run.reader (drop run.used (drop at body)) true) in
        f.rest ∙ ap (λ (k : ℕ). count + events k r.reader (drop at body)) e ∙ ap (λ (k : ℕ). count + k) p

    pub far_added : a.count ≤ 4096
    far_added = rw t.count (few_events (all_of true) 4096 r.reader (drop at body)).0

    pub far_sum : count + a.count ≤ most
    far_sum = omega (arith, far_added, f.bound, h)

    pub far_end : not_full (halt_of a.stop) ≡ true → count + a.count ≡ event_count v body
    far_end e =
        let q : not_full run.halt ≡ true = ap not_full (sym t.halt) ∙ e in
        let s = rw q at rest in
        omega (arith, s, t.count)

    pub far_more : not_full (halt_of a.stop) ≡ false → Far v body a.reader (at + a.used) (count + a.count) (turns - 1)
    far_more e =
        let q : not_full run.halt ≡ false = ap not_full (sym t.halt) ∙ e in
        let s = rw q at rest in
        let u = run_within (all_of true) (sees_all true) 4096 r.reader (drop at body) in
        record {
          teams = rw t.left (over_sound r.teams run.seen f.teams);
          within = omega (arith, u, length-drop at body, f.within, t.used);
          bound = omega (arith, far_added, f.bound, h);
          rest = rw (t.left, t.used, t.count, ← drop-drop run.used at body) (omega (arith, s));
        }
