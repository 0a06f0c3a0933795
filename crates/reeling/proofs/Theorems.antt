-- The statements of specs/Laws.antt. Assumes nothing.
use Rattle.std.specs.Prelude.{Option}
use Prim.Native.Nat.{ℕ, zero, suc, ◌≤◌}
use mathlib.Core.Path.{◌≡◌, refl, sym, subst, ap, ◌∙◌}
use mathlib.Core.List.{List, [], ◌∷◌, ◌++◌, map, append_assoc, append-nil, reverse, reverse-append}
use native.Mathlib.Omega.{arith}
use lib.ListN.{length, take, length-replicate}
use lib.Seq.{take_all, take-take}
use lib.IntN.{ℤ, pos}
use lib.Dec.{leb, ltb}
use borrow.Author.Tests.{leb-true}
use Rattle.item.specs.Said.{Said, gives, more, finish, refuses}
use Rattle.state.specs.Reading.{Event, Step, is_closed, reader_after}
use Rattle.state.specs.declared.Reader.{Reader}
use Rattle.state.proofs.Every.{by_cond, right_of}
use Rattle.teams.specs.Teams.{good_teams, teams_after, former_team, good_team_reader}
use Rattle.teams.specs.declared.TeamReader.{TeamReader}
use Rattle.calls.specs.Calls.{Call, call, Seen, is_pending, seen_by, seen_in}
use Rattle.calls.specs.Along.{Halt, stopped, before, on_said, along, all_of}
use Rattle.calls.specs.Laws.{last_first, TensBeside}
use Rattle.calls.proofs.Theorems.{run_tens}
use Rattle.team_calls.specs.Reading.{TeamStep, team_call}
use Rattle.team_calls.specs.Lists.{
  TeamSeen,
  team_seen,
  call_team,
  next_team,
  team_event_of,
  team_after,
  team_events,
  teams_over,
  teams_so_far,
  with_formers,
  formers_so_far,
}
use Rattle.team_calls.proofs.Above.{formers_join}
use Rattle.team_calls.proofs.Theorems.{runs_are_team_lists}
use Rattle.many.specs.Many.{many_calls}
use Rattle.reel.specs.Reel.{Row, good_reel, rows_of, empty_reel, keep}
use Rattle.reel.specs.Laws.{SoundReel}
use Rattle.reel.specs.declared.Reel.{Reel}
use Rattle.reel.proofs.Ring.{rows_length}
use Rattle.reel.proofs.Theorems.{keeps, empty_holds_none}
use Rattle.reeling.specs.Reeling.{keep_all, reel_after}
use Rattle.reeling.specs.Laws.{row_of, ReelHoldsLast, IsKeptList, KeptRunsAreLists, KeptCallsAreLists}

-- ---- lists

pub map_append : (xs ys : List TeamSeen) → map row_of (xs ++ ys) ≡ map row_of xs ++ map row_of ys
map_append [] ys = refl
map_append (x ∷ xs) ys = ap (λ (l : List Row). row_of x ∷ l) (map_append xs ys)

-- of the first k of two lists only the first k of the second matter
behind : (k m : ℕ) (xs ys : List Row) → k ≤ m → take k (xs ++ take m ys) ≡ take k (xs ++ ys)
behind zero m xs ys h = refl
behind (suc k) m [] ys h = take-take (suc k) m ys h
behind (suc k) m (x ∷ xs) ys h = ap (λ (l : List Row). x ∷ l) (behind k m xs ys (omega arith))

-- ---- the event of a call

-- it has ten numbers and ten former ones beside it
abbrev Tens : Step → Type 0
Tens t = (e : Event) (n : ℕ) → t.said ≡ gives e n → (length t.memory.input ≡ 10) × (length t.memory.former ≡ 10)

plain_tens : (r : Reader) (c : Call) → Tens (call r c)
unfolding along TensBeside
plain_tens r c e n s =
    (subst (λ (a : Said Event). TensBeside (on_said a (λ d k. before (seen_by (is_pending r.scalars.pending) c.window (call r c) d k) (along (λ _. c) 0 (reader_after (call r c)) [])) (reader_after (call r c))).seen) s (run_tens (λ _. c) 1 r [])).0

-- bad teams are refused, with zeros
tens : (r : TeamReader) (c : Call) → Tens (call_team r c).step
unfolding team_call
tens r c =
    by_cond (λ (t : TeamStep). Tens t.step) (good_teams r.teams) (λ _. plain_tens r.reader c)
    (λ _ _ _ _. (length-replicate {A = ℤ} 10 (pos 0), length-replicate {A = ℤ} 10 (pos 0)))

-- ---- what the reel holds

pub record Holds (l : Reel) (rows : List Row) : Type 0 where
  pub sound : SoundReel l
  pub holds : rows_of l ≡ take 512 rows

all_held : (l : Reel) → SoundReel l → rows_of l ≡ take 512 (rows_of l)
all_held l s =
    let few = leb-true l.counts.count 512 (right_of (ltb l.counts.next 512) (leb l.counts.count 512) s.good) in
    sym (take_all 512 (rows_of l) (omega (arith, few, rows_length l)))

-- after a call that says a
module _ (l : Reel) (r : TeamReader) (c : Call) (s : SoundReel l) where
  abbrev heard : Said Event → List TeamSeen
  heard a =
      let t = call_team r c in
      map (team_seen t.former) (seen_in a (seen_by (is_pending r.reader.scalars.pending) c.window t.step))

  one_held : (a : Said Event) → (call_team r c).step.said ≡ a → Holds (keep_all l (heard a)) (map row_of (heard a) ++ rows_of l)
  unfolding keep_all
  one_held (gives e n) q =
      let m = (call_team r c).step.memory in
      let t = tens r c e n q in
      let k = keeps l e m.input m.former (call_team r c).former s t.0 t.1 in
      record { sound = k.sound; holds = k.holds }
  one_held more q = record { sound = s; holds = all_held l s }
  one_held (finish n) q = record { sound = s; holds = all_held l s }
  one_held (refuses n vs) q = record { sound = s; holds = all_held l s }

held_from : (cs : List Call) (l : Reel) (r : TeamReader) → SoundReel l → Holds (reel_after l r cs) (map row_of (team_events r cs) ++ rows_of l)
unfolding reel_after team_events
held_from [] l r s = record { sound = s; holds = all_held l s }
held_from (c ∷ cs) l r s =
    let one = one_held l r c s (call_team r c).step.said refl in
    let rest = held_from cs (keep_all l (team_event_of r c)) (next_team r c) one.sound in
    let later = team_events (next_team r c) cs in
    record {
      sound = rest.sound;
      holds =
          rest.holds ∙ ap (λ (x : List Row). take 512 (map row_of later ++ x)) one.holds
          ∙ behind 512 512 (map row_of later) (map row_of (team_event_of r c) ++ rows_of l) (omega arith)
          ∙ ap (take 512) (sym (append_assoc (map row_of later) (map row_of (team_event_of r c)) (rows_of l)) ∙ ap (λ (x : List Row). x ++ rows_of l) (sym (map_append later (team_event_of r c))));
    }

pub reel_holds_last : ReelHoldsLast
reel_holds_last r cs =
    let h = held_from cs empty_reel r empty_holds_none.0 in
    record { sound = h.sound; holds = rw (empty_holds_none.1, append-nil) at h.holds }

-- ---- runs

keep_append : (l : Reel) (xs ys : List TeamSeen) → keep_all l (xs ++ ys) ≡ keep_all (keep_all l xs) ys
unfolding keep_all
keep_append l [] ys = refl
keep_append l (x ∷ xs) ys = keep_append (keep l x.seen.event x.seen.ten x.seen.former x.team) xs ys

-- one event or none
one_turned : (team : Option ℤ) (a : Said Event) (by : Event → ℕ → Seen) → reverse (map (team_seen team) (seen_in a by)) ≡ map (team_seen team) (seen_in a by)
one_turned team (gives e n) by = refl
one_turned team more by = refl
one_turned team (finish n) by = refl
one_turned team (refuses n vs) by = refl

kept_events : (cs : List Call) (l : Reel) (r : TeamReader) → reel_after l r cs ≡ keep_all l (reverse (team_events r cs))
unfolding reel_after team_events keep_all
kept_events [] l r = refl
kept_events (c ∷ cs) l r =
    let t = call_team r c in
    let later = team_events (next_team r c) cs in
    kept_events cs (keep_all l (team_event_of r c)) (next_team r c)
    ∙ sym (keep_append l (team_event_of r c) (reverse later))
    ∙ ap (keep_all l) (ap (λ (x : List TeamSeen). x ++ reverse later) (sym (one_turned t.former t.step.said _)) ∙ sym (reverse-append later (team_event_of r c)))

-- the former teams beside events, the last first and the first first
formers_turned : (t : List ℤ) (xs : List Seen) → reverse (formers_so_far t (last_first xs)) ≡ with_formers t xs
unfolding formers_so_far teams_so_far with_formers last_first
formers_turned t [] = refl
formers_turned t (x ∷ xs) =
    let y = team_seen (former_team x.event t) x in
    let older = formers_so_far (teams_after x.event t) (last_first xs) in
    ap reverse (formers_join t (last_first xs) (x ∷ []))
    ∙ reverse-append older (y ∷ [])
    ∙ ap (λ (l : List TeamSeen). y ∷ l) (formers_turned (teams_after x.event t) xs)

pub kept_runs_are_lists : KeptRunsAreLists
kept_runs_are_lists see k l r bytes s =
    let i = runs_are_team_lists see k r bytes s in
    record {
      list = i.list;
      left = i.reaches;
      same = i.same;
      reel = kept_events i.list l r ∙ ap (keep_all l) (ap reverse i.same ∙ formers_turned r.teams (along see k r.reader bytes).seen);
    }

no_calls : (h : Halt) (l : Reel) (r : TeamReader) → IsKeptList l r (stopped h 0 r.reader)
unfolding team_after team_events teams_over with_formers formers_so_far reel_after last_first keep_all
no_calls h l r = record { list = []; left = refl; same = refl; reel = refl }

pub kept_calls_are_lists : KeptCallsAreLists
unfolding many_calls
kept_calls_are_lists k l r w last s =
    by_cond (IsKeptList l r) (good_reel l)
    (λ _. by_cond (IsKeptList l r) (good_team_reader r)
    (λ _. by_cond (IsKeptList l r) (is_closed r.reader.scalars.standing) (λ _. no_calls _ l r) (λ _. kept_runs_are_lists (all_of last) k l r w s))
    (λ _. no_calls _ l r))
    (λ _. no_calls _ l r)
