-- Rewinding beside a reader (specs/Laws.antt). Assumes nothing.
use Rattle.std.specs.Prelude.{Option, Err}
use Prim.Native.Nat.{ℕ, zero, suc, ◌+◌, ◌<◌}
use mathlib.Core.Path.{◌≡◌, refl, sym, ap, ◌∙◌}
use mathlib.Core.Bool.{Bool, true, false, cond, false≢true, ◌&&◌}
use mathlib.Core.List.{List, [], ◌∷◌, ◌++◌, map}
use native.Mathlib.Omega.{arith}
use lib.ListN.{length, take}
use lib.Seq.{take-take, take-append_seam}
use lib.Dec.{ltb, eqb}
use lib.IntN.{ℤ}
use borrow.Author.Tests.{ltb-true}
use Rattle.refusal.specs.Numbers.{number_of}
use Rattle.refusal.specs.declared.Refusal.TheVariants.{Closed, TickGone}
use Rattle.item.specs.Said.{Said, gives, more, finish, refuses}
use Rattle.kinds.specs.declared.Version.{Version}
use Rattle.state.specs.Reading.{Event}
use Rattle.teams.specs.Teams.{good_team_reader, empty_team_reader}
use Rattle.teams.specs.declared.TeamReader.{TeamReader}
use Rattle.calls.specs.Calls.{Call, Seen, seen_in}
use Rattle.team_calls.specs.Lists.{TeamSeen, team_seen, call_team, next_team, team_event_of, team_after, team_events}
use Rattle.team_calls.specs.Laws.{SoundTeamReader}
use Rattle.back.specs.TeamBoard.{TeamBack, was, refused, team_board_of}
use Rattle.back.specs.declared.TeamBoard.{TeamBoard}
use Rattle.demand.proofs.Theorem.{team_after_append, demand_3}
use Rattle.reel.specs.Reel.{Row, good_reel, rows_of, empty_reel}
use Rattle.reel.specs.declared.Reel.{Reel}
use Rattle.reeling.specs.Reeling.{reel_after}
use Rattle.reeling.specs.Laws.{row_of}
use Rattle.reeling.proofs.Theorems.{map_append, reel_holds_last}
use Rattle.rewinding.specs.Rewinding.{newer, gone, newer_than, step_over, closed_by_refusal, sought_of, sought_in, step_back_to, rewind_to}
use Rattle.rewind_laws.specs.Laws.{Had, had, never, starts_in, or_else, had_after, if_among512, RewindsToTick}
use Rattle.rewind_laws.proofs.Standing.{events_append, cut_sound, cut_quiet}
use Rattle.rewind_laws.proofs.Walk.{within, newer_take, or_older, newer_append, over_back}

-- ---- lists

map_length : (xs : List TeamSeen) → length (map row_of xs) ≡ length xs
map_length [] = refl
map_length (x ∷ xs) = ap suc (map_length xs)

map_take : (n : ℕ) (xs : List TeamSeen) → take n (map row_of xs) ≡ map row_of (take n xs)
map_take zero xs = refl
map_take (suc n) [] = refl
map_take (suc n) (x ∷ xs) = ap (λ (l : List Row). row_of x ∷ l) (map_take n xs)

-- ---- where the newest TickStart of a tick stands in calls

module _ (t : ℤ) where
  abbrev pub rows_in : TeamReader → List Call → List Row
  rows_in r cs = map row_of (team_events r cs)

  pub data Split (r : TeamReader) (cs : List Call) : Had → Type 0 where
    none : newer_than t (rows_in r cs) ≡ gone → Split r cs never
    some : (upto behind : List Call) → cs ≡ upto ++ behind → newer_than t (rows_in r cs) ≡ newer (length (team_events (team_after r upto) behind))
        → Split r cs (had (team_board_of (team_after r upto)) (length (team_events (team_after r upto) behind)))

  -- of the event of a call, if it gives one
  of_said : (x : Said Event) (m : Option ℤ) (by : Event → ℕ → Seen)
      → newer_than t (map row_of (map (team_seen m) (seen_in x by))) ≡ cond (starts_in t (map (team_seen m) (seen_in x by))) (newer 0) gone
  unfolding newer_than
  of_said (gives e n) m by = refl
  of_said more m by = refl
  of_said (finish n) m by = refl
  of_said (refuses k vs) m by = refl

  of_call : (r : TeamReader) (c : Call) (cs : List Call)
      → newer_than t (rows_in r (c ∷ cs))
      ≡ or_older (newer_than t (rows_in (next_team r c) cs)) (length (team_events (next_team r c) cs)) (cond (starts_in t (team_event_of r c)) (newer 0) gone)
  unfolding team_events
  of_call r c cs =
      rw (map_append (team_events (next_team r c) cs) (team_event_of r c), newer_append t (rows_in (next_team r c) cs) (map row_of (team_event_of r c)), map_length (team_events (next_team r c) cs), of_said (call_team r c).step.said (call_team r c).former _)

  split_here : (r : TeamReader) (c : Call) (cs : List Call) (b : Bool) → newer_than t (rows_in r (c ∷ cs)) ≡ or_older gone (length (team_events (next_team r c) cs)) (cond b (newer 0) gone)
      → Split r (c ∷ cs) (cond b (had (team_board_of (next_team r c)) (length (team_events (next_team r c) cs))) never)
  unfolding team_after
  split_here r c cs true q =
      let z : length (team_events (next_team r c) cs) + 0 ≡ length (team_events (next_team r c) cs) = omega arith in
      some (c ∷ []) cs refl (rw z at q)
  split_here r c cs false q = none q

  split_call : (r : TeamReader) (c : Call) (cs : List Call) (h : Had) → Split (next_team r c) cs h
      → Split r (c ∷ cs) (or_else h (cond (starts_in t (team_event_of r c)) (had (team_board_of (next_team r c)) (length (team_events (next_team r c) cs))) never))
  unfolding team_after
  split_call r c cs never (none q) = split_here r c cs (starts_in t (team_event_of r c)) (rw q at (of_call r c cs))
  split_call r c cs (had b n) (some upto behind e q) = some (c ∷ upto) behind (ap (λ (l : List Call). c ∷ l) e) (rw q at (of_call r c cs))

  pub split : (cs : List Call) (r : TeamReader) → Split r cs (had_after t r cs)
  unfolding had_after team_events newer_than
  split [] r = none refl
  split (c ∷ cs) r = split_call r c cs (had_after t (next_team r c) cs) (split cs (next_team r c))

-- ---- calls from an empty reader, cut anywhere

module _ (v : Version) (before since : List Call) where
  abbrev pub start : TeamReader
  start = team_after (empty_team_reader v) before

  abbrev pub end : TeamReader
  end = team_after start since

  abbrev pub reel : Reel
  reel = reel_after empty_reel start since

  abbrev pub rows : List Row
  rows = map row_of (team_events start since)

  pub sound : SoundTeamReader end
  sound = cut_sound v before since

  pub rows_are : rows_of reel ≡ take 512 rows
  rows_are = (reel_holds_last start since).holds

  pub goods : (good_team_reader end && good_reel reel) ≡ true
  unfolding good_team_reader
  goods = rw (sound.reader.good, sound.teams.good, (reel_holds_last start since).sound.good)

  -- demand 3, from a place in the calls since the cut
  module _ (upto behind : List Call) (e : since ≡ upto ++ behind) (unrefused : closed_by_refusal end.reader.scalars.standing ≡ false) where
    abbrev pub newest : List TeamSeen
    newest = team_events (team_after start upto) behind

    there : team_after (empty_team_reader v) (before ++ upto) ≡ team_after start upto
    there = team_after_append (empty_team_reader v) before upto

    here : team_after (empty_team_reader v) ((before ++ upto) ++ behind) ≡ end
    here =
        team_after_append (empty_team_reader v) (before ++ upto) behind ∙ ap (λ (r : TeamReader). team_after r behind) there
        ∙ sym (team_after_append start upto behind) ∙ ap (team_after start) (sym e)

    pub back : step_over (map row_of newest) (team_board_of end) ≡ record { fits = true; board = team_board_of (team_after start upto) }
    back =
        let q = cut_quiet v ((before ++ upto) ++ behind) (rw here unrefused) in
        over_back newest (team_board_of end) (team_board_of (team_after start upto)) (rw (here, there) at (demand_3 v (before ++ upto) behind q).back)

    pub taken : length newest < 512 → take (length newest) (take 512 rows) ≡ map row_of newest
    taken h =
        let all : rows ≡ map row_of newest ++ map row_of (team_events start upto) = ap (λ (cs : List Call). map row_of (team_events start cs)) e ∙ ap (map row_of) (events_append start upto behind) ∙ map_append newest (team_events start upto) in
        take-take (length newest) 512 rows (omega arith)
        ∙ (λ i. take (sym (map_length newest) i) (all i))
        ∙ take-append_seam (map row_of newest) (map row_of (team_events start upto))

    in_room : (b : Bool) → ltb (length newest) 512 ≡ b
        → step_back_to (take 512 rows) (team_board_of end) (sought_of (cond b (newer (length newest)) gone))
        ≡ cond b (was (team_board_of (team_after start upto))) (refused TickGone)
    in_room true q = rw (taken (ltb-true (length newest) 512 q), back)
    in_room false q = refl

  among : (t : ℤ) (h : Had) → Split t start since h → closed_by_refusal end.reader.scalars.standing ≡ false
      → step_back_to (take 512 rows) (team_board_of end) (sought_of (within 512 (newer_than t rows))) ≡ if_among512 h
  among t never (none q) unrefused = rw q
  among t (had b n) (some upto behind e q) unrefused = rw q (in_room upto behind e unrefused (ltb (length (team_events (team_after start upto) behind)) 512) refl)

  abbrev answer : ℤ → TeamBack
  answer t = cond (closed_by_refusal end.reader.scalars.standing) (refused Closed) (if_among512 (had_after t start since))

  by_standing : (t : ℤ) (b : Bool) → closed_by_refusal end.reader.scalars.standing ≡ b
      → step_back_to (rows_of reel) (team_board_of end) (cond b (Err Closed) (sought_of (newer_than t (rows_of reel))))
      ≡ cond b (refused Closed) (if_among512 (had_after t start since))
  by_standing t true q = refl
  by_standing t false q = rw (rows_are, newer_take t 512 rows) (among t (had_after t start since) (split t since start) q)

  rewinds : (t : ℤ) → rewind_to end reel t ≡ answer t
  unfolding rewind_to sought_in
  rewinds t = rw goods (by_standing t (closed_by_refusal end.reader.scalars.standing) refl)

-- ---- 19 never comes

abbrev is19 : TeamBack → Bool
is19 (was b) = false
is19 (refused r) = eqb (number_of r) 19

room_fits : (b : TeamBoard) (x : Bool) → is19 (cond x (was b) (refused TickGone)) ≡ false
room_fits b true = refl
room_fits b false = refl

among_fits : (h : Had) → is19 (if_among512 h) ≡ false
among_fits (had b n) = room_fits b (ltb n 512)
among_fits never = refl

answer_fits : (b : Bool) (h : Had) → is19 (cond b (refused Closed) (if_among512 h)) ≡ false
answer_fits true h = refl
answer_fits false h = among_fits h

pub rewinds_to_tick : RewindsToTick
rewinds_to_tick v before since =
    record {
      holds = rows_are v before since ∙ map_take 512 (team_events (team_after (empty_team_reader v) before) since);
      rewinds = rewinds v before since;
      fits = λ t e. false≢true (sym (answer_fits (closed_by_refusal (team_after (team_after (empty_team_reader v) before) since).reader.scalars.standing) (had_after t (team_after (empty_team_reader v) before) since)) ∙ ap is19 (sym (rewinds v before since t) ∙ e));
    }
