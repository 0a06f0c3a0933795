-- A turn reads the beginning of a body. Assumes nothing.
use Prim.Native.Nat.{ℕ, zero, suc, ◌+◌, ◌-◌, ◌≤◌}
use mathlib.Core.Path.{◌≡◌, refl, sym, ap, ◌∙◌}
use mathlib.Core.Bool.{Bool, true, false, cond}
use mathlib.Core.List.{List, ◌++◌, append_assoc}
use native.Mathlib.Omega.{arith}
use lib.ListN.{length, take, drop, length-take, length-drop, take-append-drop}
use lib.Seq.{take-append-le, drop-append-le, drop-drop}
use lib.IntN.{ℤ}
use borrow.Author.Tests.{ltb-false}
use Rattle.item.specs.Said.{Said, gives, more, finish, refuses}
use Rattle.state.specs.Reading.{Event, Step, read_call, reader_after}
use Rattle.state.specs.declared.Reader.{Reader}
use Rattle.teams.specs.Teams.{team_reader, teams_after}
use Rattle.calls.specs.Calls.{is_pending, seen_by}
use Rattle.calls.specs.Along.{along, Halt, is_full, wants_more, finishes, is_refused, Run, stopped, before, on_said, calls}
use Rattle.calls.specs.Laws.{NotMore}
use Rattle.team_calls.specs.Lists.{teams_over}
use Rattle.calls.proofs.Singles.{uses_within, more_leaves, call_longer}
use Rattle.calls.proofs.Runs.{follow}
use Rattle.windows.specs.Windows.{full, window_of, is_short, turn_run, ends}
use Rattle.windows.proofs.AtHand.{window_longer, first_more}
use Rattle.reach_turns.specs.Laws.{body_call, FileRead, read_by}

-- with the teams before it
abbrev pub read : ℕ → Reader → List ℤ → List ℕ → FileRead
read k r t b = read_by t (along body_call k r b) b

-- the calls of a turn
abbrev pub plain_turn : Reader → List ℕ → Run
plain_turn r bytes = turn_run 512 r bytes false

abbrev pub file_read : Reader → List ℤ → Halt → List ℕ → FileRead
file_read r t h left = record { reader = team_reader r t; halt = h; left = left }

-- ---- one call on the window

-- by what it says
abbrev read_on : ℕ → List ℤ → List ℕ → Step → Said Event → FileRead
read_on k t b s (gives e n) = read k (reader_after s) (teams_after e t) (drop n b)
read_on k t b s more = file_read (reader_after s) t wants_more b
read_on k t b s (finish n) = file_read (reader_after s) t finishes (drop n b)
read_on k t b s (refuses j vs) = file_read (reader_after s) t (is_refused j vs) b

said_reads : (k : ℕ) (r : Reader) (t : List ℤ) (b : List ℕ) (a : Said Event)
    → read_by t (follow body_call k r b a) b ≡ read_on k t b (read_call r (window_of b) false) a
unfolding teams_over
said_reads k r t b (gives e n) =
    let run = along body_call k (reader_after (read_call r (window_of b) false)) (drop n b) in
    ap (file_read run.reader (teams_over (teams_after e t) run.seen) run.halt) (sym (drop-drop run.used n b))
said_reads k r t b more = refl
said_reads k r t b (finish n) = refl
said_reads k r t b (refuses j vs) = refl

one_call : (k : ℕ) (r : Reader) (t : List ℤ) (b : List ℕ) (s : Step) (a : Said Event) → read_call r (window_of b) false ≡ s → s.said ≡ a
    → read (suc k) r t b ≡ read_on k t b s a
unfolding along
one_call k r t b s a e f =
    said_reads k r t b (read_call r (window_of b) false).said ∙ ap (λ (u : Step). read_on k t b u u.said) e ∙ ap (read_on k t b s) f

-- where it says more, nothing is read
pub at_more : (k : ℕ) (r : Reader) (t : List ℤ) (b : List ℕ) → (read_call r (window_of b) false).said ≡ more
    → read (suc k) r t b ≡ file_read r t wants_more b
at_more k r t b s =
    one_call k r t b (read_call r (window_of b) false) more refl s
    ∙ ap (λ (q : Reader). file_read q t wants_more b) (more_leaves r (window_of b) false s).1

-- ---- calls on what is at hand

-- what is read in all, of what a run read and what follows it
abbrev behind : Halt → FileRead → FileRead → FileRead
behind is_full now next = next
behind wants_more now next = next
behind finishes now next = now
behind (is_refused k vs) now next = now

abbrev Follows : ℕ → Reader → List ℤ → List ℕ → Run → Type 0
Follows k r t b run =
    read (length run.seen + suc k) r t b
    ≡ behind run.halt (read_by t run b) (read (suc k) run.reader (teams_over t run.seen) (drop run.used b))

module _ (k : ℕ) (r : Reader) (teams : List ℤ) (w z : List ℕ) (f : length w ≤ full) where
  abbrev t : Step
  t = read_call r w false

  abbrev b : List ℕ
  b = w ++ z

  zero_first : 0 + suc k ≡ suc k
  zero_first = omega arith

  same_call : NotMore t.said → read_call r (window_of b) false ≡ t
  same_call h = rw (window_longer w z f) (call_longer r w (take (full - length w) z) false h)

  an_event_law : (e : Event) (m : ℕ) → t.said ≡ gives e m → (rest : Run) → Follows k (reader_after t) (teams_after e teams) (drop m w ++ z) rest
      → Follows k r teams b (before (seen_by (is_pending r.scalars.pending) w t e m) rest)
  unfolding teams_over
  an_event_law e m s rest h =
      let c = one_call (length rest.seen + suc k) r teams b t (gives e m) (same_call (rw s tt)) s in
      let q : suc (length rest.seen) + suc k ≡ suc (length rest.seen + suc k) = omega arith in
      let d : drop m b ≡ drop m w ++ z = drop-append-le m w z (uses_within r w false e m s) in
      let g : drop (m + rest.used) b ≡ drop rest.used (drop m w ++ z) = sym (drop-drop rest.used m b) ∙ ap (drop rest.used) d in
      rw (q, g) (c ∙ ap (read (length rest.seen + suc k) (reader_after t) (teams_after e teams)) d ∙ h)

  no_event_law : (a : Said Event) → t.said ≡ a → (next : Event → ℕ → Run) → ((e : Event) (m : ℕ) → t.said ≡ gives e m → Follows k r teams b (next e m))
      → Follows k r teams b (on_said a next (reader_after t))
  unfolding teams_over
  no_event_law (gives e m) s next g = g e m s
  no_event_law more s next g = rw (zero_first, (more_leaves r w false s).1)
  no_event_law (finish m) s next g = rw zero_first (one_call k r teams b t (finish m) (same_call (rw s tt)) s)
  no_event_law (refuses j vs) s next g = rw zero_first (one_call k r teams b t (refuses j vs) (same_call (rw s tt)) s)

follows : (n k : ℕ) (r : Reader) (teams : List ℤ) (w z : List ℕ) → length w ≤ full → Follows k r teams (w ++ z) (calls n r w false)
unfolding along teams_over
follows zero k r teams w z f = let e : 0 + suc k ≡ suc k = omega arith in rw e
follows (suc n) k r teams w z f =
    let t = read_call r w false in
    no_event_law k r teams w z f t.said refl _
    (λ e m s. an_event_law k r teams w z f e m s (calls n (reader_after t) (drop m w) false)
    (follows n k (reader_after t) (teams_after e teams) (drop m w) z (omega (arith, length-drop m w))))

-- ---- a turn, with bytes behind those at hand

join : (s : Bool) (h : Halt) (c : ℕ) (whole now next : FileRead) → whole ≡ behind h now next
    → (s ≡ false → h ≡ wants_more → c ≡ 0 → whole ≡ now) → whole ≡ cond (ends s h c) now next
join s is_full c whole now next e f = e
join true wants_more c whole now next e f = e
join false wants_more zero whole now next e f = f refl refl refl
join false wants_more (suc c) whole now next e f = e
join s finishes c whole now next e f = e
join s (is_refused k vs) c whole now next e f = e

-- a call that says more is the last
only_more : (n : ℕ) (r : Reader) (w : List ℕ) → (read_call r w false).said ≡ more → calls (suc n) r w false ≡ stopped wants_more 0 r
unfolding along
only_more n r w s = rw s (ap (stopped wants_more 0) (more_leaves r w false s).1)

none_first : (c k : ℕ) → c ≡ 0 → c + suc k ≡ suc k
none_first c k e = omega arith

-- a full window that says more at once
stuck : (n k : ℕ) (r : Reader) (t : List ℤ) (hand z : List ℕ) → is_short hand ≡ false → let run = calls (suc n) r (window_of hand) false in
    run.halt ≡ wants_more → length run.seen ≡ 0 → read (length run.seen + suc k) r t (hand ++ z) ≡ read_by t run (hand ++ z)
unfolding teams_over
stuck n k r t hand z s h c =
    let m = first_more n r (window_of hand) false h c in
    let e : window_of (hand ++ z) ≡ window_of hand = take-append-le full hand z (ltb-false (length hand) full s) in
    ap (λ (j : ℕ). read j r t (hand ++ z)) (none_first (length (calls (suc n) r (window_of hand) false).seen) k c)
    ∙ at_more k r t (hand ++ z) (rw e m)
    ∙ ap (λ (run : Run). read_by t run (hand ++ z)) (sym (only_more n r (window_of hand) m))

pub turn_reads : (k : ℕ) (r : Reader) (t : List ℤ) (hand z : List ℕ) → let run = plain_turn r hand in let body = hand ++ z in
    read (length run.seen + suc k) r t body
    ≡ cond (ends (is_short hand) run.halt (length run.seen)) (read_by t run body)
    (read (suc k) run.reader (teams_over t run.seen) (drop run.used body))
turn_reads k r t hand z =
    let run = plain_turn r hand in
    let body = hand ++ z in
    let e : window_of hand ++ (drop full hand ++ z) ≡ body =
    sym (append_assoc (window_of hand) (drop full hand) z) ∙ ap (λ (l : List ℕ). l ++ z) (take-append-drop full hand) in
    join (is_short hand) run.halt (length run.seen) (read (length run.seen + suc k) r t body) (read_by t run body)
    (read (suc k) run.reader (teams_over t run.seen) (drop run.used body))
    (rw e at (follows 512 k r t (window_of hand) (drop full hand ++ z) (omega (arith, length-take full hand))))
    (stuck 511 k r t hand z)
