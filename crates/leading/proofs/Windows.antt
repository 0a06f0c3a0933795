-- Bytes that lead a reader on do so in whatever windows, and are used up. Assumes nothing.
use Rattle.std.specs.Prelude.{None}
use Prim.Native.Nat.{ℕ, suc, ◌+◌, ◌-◌, ◌≤◌, ◌<◌}
use mathlib.Core.Path.{◌≡◌, refl, sym, ◌∙◌, ap, subst}
use mathlib.Core.Bool.{Bool, true, false}
use mathlib.Core.List.{List, [], ◌∷◌, ◌++◌}
use native.Mathlib.Omega.{arith}
use lib.ListN.{length, take, drop, replicate, length-append, length-take, take-append-drop}
use lib.Seq.{take-append-add, drop-append_seam, take-nil}
use lib.IntN.{ℤ}
use lib.Dec.{leb}
use borrow.Author.Tests.{leb-true, leb-false, lt-leb}
use Rattle.varint.specs.Integers.{read_from, read_int}
use Rattle.item.specs.Said.{Said, gives, more, finish, refuses}
use Rattle.kinds.specs.Kinds.{read_kind}
use Rattle.state.specs.State.{good_reader}
use Rattle.state.specs.Reading.{Event, Step, closing, refusal_step, out_of, next_kind, open_call, good_call, is_closed, read_call, reader_after}
use Rattle.state.specs.Laws.{used_in}
use Rattle.state.specs.steps.Parts.{memory_of}
use Rattle.state.specs.declared.Reader.{Reader}
use Rattle.state.proofs.Every.{by_cond}
use Rattle.teams.specs.Teams.{Joining, team_reader, teams_after}
use Rattle.teams.specs.Laws.{SoundTeams}
use Rattle.calls.specs.Calls.{Call, call}
use Rattle.calls.specs.Laws.{NotMore}
use Rattle.calls.proofs.Theorems.{call_within, more_leaves, call_longer}
use Rattle.team_calls.specs.Reading.{TeamStep, teams_said, team_call, team_reader_after}
use Rattle.team_calls.proofs.Above.{said_sound, good_call_law}
use Rattle.back.specs.Board.{board_of}
use Rattle.back.specs.TeamBoard.{team_board, team_board_of}
use Rattle.leading.specs.Windows.{At, at, Cut, call_at, step, reads, Done, EventOr, GoesOn, Leading, whole}
use Rattle.leading.specs.Leads.{GivesUsing, joining_said, Takes, Leads, there, takes, after_joining, after_joinings}
use Rattle.leading.specs.Laws.{LeadsInWindows, LeadsEnd}

-- ---- no bytes and nothing pending: a call gives no event, uses nothing, and leaves the board

abbrev NoEvent : Said Event → Type 0
NoEvent (gives e n) = ⊥
NoEvent more = Unit {0}
NoEvent (finish n) = Unit {0}
NoEvent (refuses k vs) = Unit {0}

record Idle (r : Reader) (t : Step) : Type 0 where
  eventless : NoEvent t.said
  unused : used_in t.said ≡ 0
  free : t.scalars.pending ≡ None
  board : board_of (reader_after t) ≡ board_of r

module _ (r : Reader) (p : r.scalars.pending ≡ None) where
  idle_open : (last : Bool) → Idle r (open_call r.scalars (memory_of r.entries) [] last)
  unfolding open_call next_kind read_kind read_int read_from out_of refusal_step closing board_of
  idle_open true = rw p (record { eventless = tt; unused = refl; free = refl; board = refl })
  idle_open false = rw p (record { eventless = tt; unused = refl; free = refl; board = refl })

  idle : (last : Bool) → Idle r (read_call r [] last)
  unfolding read_call good_call board_of
  idle last =
      by_cond (Idle r) (good_reader r)
      (λ _.
      by_cond (Idle r) (is_closed r.scalars.standing)
      (λ _. record { eventless = tt; unused = refl; free = p; board = refl })
      (λ _. idle_open last))
      (λ _. record { eventless = tt; unused = refl; free = p; board = refl })

-- ---- teams: a call is the call without them, and above it what its event says of a team

teams_said_law : (x : Said Event) (t : List ℤ) → teams_said x t ≡ after_joining (joining_said x) t
unfolding teams_after
teams_said_law (gives e n) t = refl
teams_said_law more t = refl
teams_said_law (finish n) t = refl
teams_said_law (refuses k vs) t = refl

module _ (r : Reader) (t : List ℤ) (sound : SoundTeams t) (bytes : List ℕ) (c : Cut) where
  abbrev here : At
  here = at (team_reader r t) bytes

  abbrev without : Step
  without = call r (call_at bytes c)

  step_is : step here c ≡ at (team_reader (reader_after without) (teams_said without.said t)) (drop (used_in without.said) bytes)
  step_is =
      ap (λ (x : TeamStep). at (team_reader_after x) (drop (used_in x.step.said) bytes)) (good_call_law (team_reader r t) (call_at bytes c) sound.good)

  goes_by : EventOr (c.size < used_in (read_call r bytes false).said) without.said → GoesOn here c
  goes_by e =
      let whole : Call = record { window = bytes; last = false } in
      let a = sym (good_call_law (team_reader r t) whole sound.good) in
      let b = sym (good_call_law (team_reader r t) (call_at bytes c) sound.good) in
      subst (λ (x : TeamStep). EventOr (c.size < used_in (team_call (team_reader r t) bytes false).step.said) x.step.said) b
      (subst (λ (x : TeamStep). EventOr (c.size < used_in x.step.said) without.said) a e)

-- ---- a call on a window of bytes that begin with a piece: it takes the piece, or it wants more and changes nothing

uses : (n : ℕ) (x : Said Event) → GivesUsing n x → used_in x ≡ n
uses n (gives e k) h = h
uses n more h = absurd h
uses n (finish k) h = absurd h
uses n (refuses k vs) h = absurd h

event_or : (n : ℕ) (cut : Type 0) (x : Said Event) → GivesUsing n x → EventOr cut x
event_or n cut (gives e k) h = tt
event_or n cut more h = absurd h
event_or n cut (finish k) h = absurd h
event_or n cut (refuses k vs) h = absurd h

more_or : (x : Said Event) → (NotMore x → ⊥) → x ≡ more
more_or (gives e k) h = absurd (h tt)
more_or more h = refl
more_or (finish k) h = absurd (h tt)
more_or (refuses k vs) h = absurd (h tt)

module _ (r middle : Reader) (t : List ℤ) (sound : SoundTeams t) (piece rest : List ℕ) (j : Joining) (k : Takes r piece j middle) (c : Cut) where
  abbrev now : At
  now = at (team_reader r t) (piece ++ rest)

  abbrev then : At
  then = at (team_reader middle (after_joining j t)) rest

  data Stepped : Type 0 where
    went : GoesOn now c → step now c ≡ then → Stepped
    waited : GoesOn now c → step now c ≡ now → Stepped

  used_by_law : (behind : List ℕ) (last : Bool) → used_in (read_call r (piece ++ behind) last).said ≡ length piece
  used_by_law behind last = uses (length piece) (read_call r (piece ++ behind) last).said (k.gives behind last)

  teams_by : (behind : List ℕ) (last : Bool) → teams_said (read_call r (piece ++ behind) last).said t ≡ after_joining j t
  teams_by behind last = teams_said_law (read_call r (piece ++ behind) last).said t ∙ ap (λ (x : Joining). after_joining x t) (k.says behind last)

  -- the teams stay sound
  sound_by : SoundTeams (after_joining j t)
  sound_by = subst SoundTeams (teams_by [] false) (said_sound (read_call r (piece ++ []) false).said t sound)

  abbrev flag : Bool
  flag = (call_at (piece ++ rest) c).last

  window_long : length piece ≤ c.size → take c.size (piece ++ rest) ≡ piece ++ take (c.size - length piece) rest
  window_long h =
      let n : c.size ≡ length piece + (c.size - length piece) = omega arith in
      ap (λ k. take k (piece ++ rest)) n ∙ take-append-add piece rest (c.size - length piece)

  long_step : length piece ≤ c.size → step now c ≡ then
  long_step h =
      let b = take (c.size - length piece) rest in
      step_is r t sound (piece ++ rest) c
      ∙ rw (window_long h, used_by_law b flag, k.leaves b flag, teams_by b flag, drop-append_seam piece rest)

  long_goes : length piece ≤ c.size → GoesOn now c
  long_goes h =
      let w = piece ++ take (c.size - length piece) rest in
      let cut = c.size < used_in (read_call r (piece ++ rest) false).said in
      goes_by r t sound (piece ++ rest) c
      (rw (window_long h) (event_or (length piece) cut (read_call r w flag).said (k.gives (take (c.size - length piece) rest) flag)))

  -- the window ends inside the piece
  module _ (h : c.size < length piece) where
    off : flag ≡ false
    off = rw (lt-leb (length (piece ++ rest)) c.size (omega (arith, length-append piece rest)))

    says_more : (read_call r (take c.size (piece ++ rest)) false).said ≡ more
    says_more =
        more_or _
        (λ n.
        let w = take c.size (piece ++ rest) in
        let x = drop c.size (piece ++ rest) in
        let e : read_call r (piece ++ rest) false ≡ read_call r w false = ap (λ (l : List ℕ). read_call r l false) (sym (take-append-drop c.size (piece ++ rest))) ∙ call_longer r w x false n in
        omega (arith, call_within r w false, used_by_law rest false, ap (λ (u : Step). used_in u.said) e, length-take c.size (piece ++ rest)))

    short_goes : GoesOn now c
    short_goes = goes_by r t sound (piece ++ rest) c (rw (off, says_more) (rw (used_by_law rest false) h))

    short_step : step now c ≡ now
    short_step =
        step_is r t sound (piece ++ rest) c
        ∙ rw (off, says_more, (more_leaves r (take c.size (piece ++ rest)) false says_more).1)

  stepped : Stepped
  stepped = by_size (leb (length piece) c.size) refl
    where
      by_size : (b : Bool) → leb (length piece) c.size ≡ b → Stepped
      by_size true e = let h = leb-true (length piece) c.size e in went (long_goes h) (long_step h)
      by_size false e = let h = leb-false (length piece) c.size e in waited (short_goes h) (short_step h)

-- ---- on the way to a reader and the teams u: the next piece, or there

data On (to : Reader) (u : List ℤ) : At → Type 0 where
  under : {r middle : Reader} {t : List ℤ} {j : Joining} {js : List Joining} (piece rest : List ℕ) → SoundTeams t → Takes r piece j middle
      → Leads middle rest js to → after_joinings js (after_joining j t) ≡ u → On to u (at (team_reader r t) (piece ++ rest))
  arrived : {r : Reader} {t : List ℤ} → SoundTeams t → r.scalars.pending ≡ None → board_of r ≡ board_of to → t ≡ u
      → On to u (at (team_reader r t) [])

leads_are_on : {r to : Reader} {t u : List ℤ} {bytes : List ℕ} {js : List Joining} → to.scalars.pending ≡ None → SoundTeams t
    → Leads r bytes js to → after_joinings js t ≡ u → On to u (at (team_reader r t) bytes)
unfolding after_joinings
leads_are_on p s there e = arrived s p refl e
leads_are_on p s (takes piece rest q t l) e = rw q (under piece rest s t l e)

no_event_law : (n : ℕ) (x : Said Event) → GivesUsing n x → NoEvent x → ⊥
no_event_law n (gives e k) g h = h
no_event_law n more g h = g
no_event_law n (finish k) g h = g
no_event_law n (refuses k vs) g h = g

no_teams_law : (x : Said Event) (t : List ℤ) → NoEvent x → teams_said x t ≡ t
no_teams_law (gives e k) t h = absurd h
no_teams_law more t h = refl
no_teams_law (finish k) t h = refl
no_teams_law (refuses k vs) t h = refl

-- where nothing is pending a piece has bytes
not_empty : {r middle : Reader} {j : Joining} (piece rest : List ℕ) → Takes r piece j middle → r.scalars.pending ≡ None → piece ++ rest ≡ [] → ⊥
not_empty {r} [] rest t p e = no_event_law 0 (read_call r [] false).said (t.gives [] false) (idle r p false).eventless
not_empty (b ∷ bs) rest t p e = let z : ◌≡◌ {A = ℕ} 0 1 = cc in omega arith

module _ (to : Reader) (u : List ℤ) (free : to.scalars.pending ≡ None) where
  idle_step : (r : Reader) (t : List ℤ) (s : SoundTeams t) (c : Cut) → r.scalars.pending ≡ None → board_of r ≡ board_of to → t ≡ u
      → On to u (step (at (team_reader r t) []) c)
  idle_step r t s c p b e =
      let i = idle r p (call_at [] c).last in
      rw (step_is r t s [] c, take-nil c.size, i.unused, no_teams_law (read_call r [] (call_at [] c).last).said t i.eventless)
      (arrived s i.free (i.board ∙ b) e)

  on_step : {s : At} (c : Cut) → On to u s → On to u (step s c)
  on_step c (under {r} {middle} {t} {j} piece rest s k l e) = by_step (stepped r middle t s piece rest j k c)
    where
      by_step : Stepped r middle t s piece rest j k c → On to u (step (at (team_reader r t) (piece ++ rest)) c)
      by_step (went g q) = rw q (leads_are_on free (sound_by r middle t s piece rest j k c) l e)
      by_step (waited g q) = rw q (under piece rest s k l e)
  on_step c (arrived {r} {t} s p b e) = idle_step r t s c p b e

  goes_on : {s : At} → On to u s → Leading (λ q. team_board_of q ≡ team_board (board_of to) u) s
  goes_on (under {r} {middle} {t} {j} piece rest s k l e) =
      record {
        goes = λ _ c. by_step c (stepped r middle t s piece rest j k c);
        ends = λ d. absurd (not_empty piece rest k d.free d.used);
      }
    where
      by_step : (c : Cut) → Stepped r middle t s piece rest j k c → GoesOn (at (team_reader r t) (piece ++ rest)) c
      by_step c (went g q) = g
      by_step c (waited g q) = g
  goes_on (arrived s p b e) =
      record { goes = λ n. absurd (n (record { used = refl; free = p })); ends = λ _ i. team_board (b i) (e i) }

  on_reads : {s : At} (cuts : List Cut) → On to u s → On to u (reads s cuts)
  unfolding reads
  on_reads {s = s} [] o = o
  on_reads {s = s} (c ∷ cs) o = on_reads {s = step s c} cs (on_step c o)

pub leads_in_windows : LeadsInWindows
leads_in_windows r to t bytes js s l p cuts =
    let u = after_joinings js t in
    goes_on to u p (on_reads to u p cuts (leads_are_on p s l refl))

-- ---- with all the bytes in each window each call takes a piece

record EndsBy (s : At) (c : Cut) : Type 0 where
  calls : ℕ
  done : Done (reads s (replicate calls c))

one_more : {r middle : Reader} {t : List ℤ} {j : Joining} (piece rest : List ℕ) (c : Cut) → SoundTeams t → Takes r piece j middle
    → length piece ≤ c.size → EndsBy (at (team_reader middle (after_joining j t)) rest) c → EndsBy (at (team_reader r t) (piece ++ rest)) c
unfolding reads
one_more {r} {middle} {t} {j} piece rest c s k h x =
    record {
      calls = suc x.calls;
      done = subst (λ (a : At). Done (reads a (replicate x.calls c))) (sym (long_step r middle t s piece rest j k c h)) x.done;
    }

ends_by : {r to : Reader} {t : List ℤ} {bytes : List ℕ} {js : List Joining} (c : Cut) → SoundTeams t → length bytes ≤ c.size
    → to.scalars.pending ≡ None → Leads r bytes js to → EndsBy (at (team_reader r t) bytes) c
unfolding reads
ends_by c s h p there = record { calls = 0; done = record { used = refl; free = p } }
ends_by {t = t} c s h p (takes {r} {middle} {j = j} piece rest e k l) =
    let n : length piece + length rest ≤ c.size = omega (arith, ap length e, length-append piece rest) in
    rw e (one_more piece rest c s k (omega arith) (ends_by c (sound_by r middle t s piece rest j k c) (omega arith) p l))

pub leads_end : LeadsEnd
leads_end r to t bytes js s l p =
    let k = ends_by (whole bytes) s (omega arith) p l in
    record { calls = k.calls; done = k.done }
