-- Enough turns end the reading. Assumes nothing.
use Prim.Native.Nat.{ℕ, zero, suc, ◌+◌, ◌*◌, ◌-◌, ◌≤◌, ◌<◌}
use mathlib.Core.Path.{◌≡◌, refl, sym, ap}
use mathlib.Core.Bool.{Bool, true, false, cond, false≢true}
use mathlib.Core.List.{List, [], ◌∷◌}
use native.Mathlib.Omega.{arith}
use lib.ListN.{length, take, drop, length-take, length-drop}
use Rattle.num.proofs.Cases.{by_bool}
use Rattle.item.specs.Said.{Said, gives, more, finish, refuses}
use Rattle.state.specs.Reading.{Event, read_call, reader_after}
use Rattle.state.specs.declared.Reader.{Reader}
use Rattle.calls.specs.Calls.{is_pending, Seen, seen_by}
use Rattle.calls.specs.Along.{along, Halt, is_full, wants_more, finishes, is_refused, Run, before, on_said, calls}
use Rattle.windows.specs.Windows.{full, window_of, is_short, is_last_window, ends}
use Rattle.windows.specs.Turns.{Arrived, some, all, at_hand, has_ended, Turn, run_of, short, over, turns_end, have_all, EnoughTurns}
use Rattle.calls.proofs.Singles.{uses_within, more_leaves}
use Rattle.calls.proofs.Ranks.{rank, rank_le, call_falls}

-- what is left falls with each event, where the calls stop for want of room or bytes
abbrev Left : Halt → ℕ → Run → ℕ → Type 0
Left is_full b run size = (rank run.reader.scalars + length run.seen ≤ b + 5 * run.used) × (run.used ≤ size)
Left wants_more b run size = (rank run.reader.scalars + length run.seen ≤ b + 5 * run.used) × (run.used ≤ size)
Left finishes b run size = Unit {0}
Left (is_refused k vs) b run size = Unit {0}

an_event_law : (h : Halt) (b c size n : ℕ) (x : Seen) (run : Run) → c + 1 ≤ b + 5 * n → n ≤ size → x.used ≡ n
    → (rest : ℕ) → rest + n ≤ size → Left h c run rest → Left h b (before x run) size
an_event_law is_full b c size n x run f u e rest g l = (omega (arith, l.0), omega (arith, l.1))
an_event_law wants_more b c size n x run f u e rest g l = (omega (arith, l.0), omega (arith, l.1))
an_event_law finishes b c size n x run f u e rest g l = tt
an_event_law (is_refused k vs) b c size n x run f u e rest g l = tt

abbrev Falls : ℕ → ℕ → Run → Type 0
Falls b size run = Left run.halt b run size

by_said : (r : Reader) (w : List ℕ) (last : Bool) (a : Said Event) → (read_call r w last).said ≡ a → (next : Event → ℕ → Run)
    → ((e : Event) (n : ℕ) → (read_call r w last).said ≡ gives e n → Falls (rank r.scalars) (length w) (next e n))
    → Falls (rank r.scalars) (length w) (on_said a next (reader_after (read_call r w last)))
by_said r w last (gives e n) s next f = f e n s
by_said r w last more s next f = let q = ap (λ (z : Reader). rank z.scalars) (more_leaves r w last s).1 in (omega arith, omega arith)
by_said r w last (finish n) s next f = tt
by_said r w last (refuses k vs) s next f = tt

pub run_falls : (n : ℕ) (r : Reader) (w : List ℕ) (last : Bool) → Falls (rank r.scalars) (length w) (calls n r w last)
unfolding along
run_falls zero r w last = (omega arith, omega arith)
run_falls (suc n) r w last =
    let t = read_call r w last in
    by_said r w last t.said refl (λ e m. before (seen_by (is_pending r.scalars.pending) w t e m) (calls n (reader_after t) (drop m w) last))
    (λ e m s.
    let f : rank t.scalars + 1 ≤ rank r.scalars + 5 * m = rw s at (call_falls r w last) in
    let u = uses_within r w last e m s in
    let run = calls n (reader_after t) (drop m w) last in
    an_event_law run.halt (rank r.scalars) (rank t.scalars) (length w) m (seen_by (is_pending r.scalars.pending) w t e m) run f u refl (length (drop m w))
    (omega (arith, length-drop m w)) (run_falls n (reader_after t) (drop m w) last))

-- so no more is left after a turn that does not end the reading
pub left_after : (s : Bool) (h : Halt) (b size : ℕ) (run : Run) → ends s h (length run.seen) ≡ false → Left h b run size
    → (rank run.reader.scalars + length run.seen ≤ b + 5 * run.used) × (run.used ≤ size)
left_after s is_full b size run e l = l
left_after s wants_more b size run e l = l
left_after s finishes b size run e l = absurd (false≢true (sym e))
left_after s (is_refused k vs) b size run e l = absurd (false≢true (sym e))

-- how much is left
abbrev pub M : Reader → List ℕ → ℕ
M r body = 5 * length body + rank r.scalars

hand_le : (a : Arrived) (body : List ℕ) → length (window_of (at_hand a body)) ≤ length body
hand_le (some n) body = omega (arith, length-take full (take n body), length-take n body)
hand_le all body = omega (arith, length-take full body)

pub sum_le : (used left b c d seen : ℕ) → used ≤ left → c + seen ≤ b + 5 * used → d ≡ left - used → 5 * d + c + seen ≤ 5 * left + b
sum_le used left b c d seen u f e = omega arith

falls_by_events : (t : Turn) (r : Reader) (body : List ℕ) → over t r body ≡ false
    → let run = run_of t r body in M run.reader (drop run.used body) + length run.seen ≤ M r body
falls_by_events t r body o =
    let run = run_of t r body in
    let w = window_of (at_hand t.arrived body) in
    let p = left_after (short t body) run.halt (rank r.scalars) (length w) run o
    (run_falls (suc t.room) r w (is_last_window (has_ended t.arrived) (at_hand t.arrived body))) in
    sum_le run.used (length body) (rank r.scalars) (rank run.reader.scalars) (length (drop run.used body)) (length run.seen)
    (omega (arith, p.1, hand_le t.arrived body)) p.0 (length-drop run.used body)

-- ---- a turn that has all the bytes and does not end the reading gives an event

some_event : (s : Bool) (a : Said Event) → (a ≡ more → s ≡ false) → (x : Event → ℕ → Seen) (next : Event → ℕ → Run) (left : Reader)
    → ends s (on_said a (λ e m. before (x e m) (next e m)) left).halt (length (on_said a (λ e m. before (x e m) (next e m)) left).seen) ≡ false
    → 1 ≤ length (on_said a (λ e m. before (x e m) (next e m)) left).seen
some_event s (gives e m) f x next left h = omega arith
some_event true more f x next left h = absurd (false≢true (sym (f refl)))
some_event false more f x next left h = absurd (false≢true (sym h))
some_event s (finish m) f x next left h = absurd (false≢true (sym h))
some_event s (refuses k vs) f x next left h = absurd (false≢true (sym h))

goes_on : (s : Bool) (n : ℕ) (r : Reader) (w : List ℕ) → ends s (calls (suc n) r w s).halt (length (calls (suc n) r w s).seen) ≡ false
    → 1 ≤ length (calls (suc n) r w s).seen
unfolding along
goes_on s n r w h =
    let t = read_call r w s in
    some_event s t.said (λ e. (more_leaves r w s e).0) (λ e m. seen_by (is_pending r.scalars.pending) w t e m) (λ e m. calls n (reader_after t) (drop m w) s) (reader_after t) h

-- one, if the turn has all the bytes
abbrev one : Arrived → ℕ
one (some n) = 0
one all = 1

gives_one : (a : Arrived) (n : ℕ) (r : Reader) (body : List ℕ) → let t : Turn = record { room = n; arrived = a } in
    over t r body ≡ false → one a ≤ length (run_of t r body).seen
gives_one (some k) n r body o = omega arith
gives_one all n r body o = goes_on (is_short body) n r (window_of body) o

falls_on : (t : Turn) (r : Reader) (body : List ℕ) → over t r body ≡ false
    → let run = run_of t r body in M run.reader (drop run.used body) + one t.arrived ≤ M r body
falls_on t r body o = omega (arith, falls_by_events t r body o, gives_one t.arrived t.room r body o)

-- ---- turns

later : (t : Turn) (ts : List Turn) (r : Reader) (body : List ℕ) → over t r body ≡ false
    → turns_end ts (run_of t r body).reader (drop (run_of t r body).used body) ≡ true → turns_end (t ∷ ts) r body ≡ true
unfolding turns_end
later t ts r body o h = rw o h

now : (t : Turn) (ts : List Turn) (r : Reader) (body : List ℕ) → over t r body ≡ true → turns_end (t ∷ ts) r body ≡ true
unfolding turns_end
now t ts r body o = rw o

one_fewer : (a : Arrived) (count before after : ℕ) → after + one a ≤ before → before < cond (has_ended a) (suc count) count → after < count
one_fewer (some n) count before after h l = omega arith
one_fewer all count before after h l = omega arith

end : (ts : List Turn) (r : Reader) (body : List ℕ) → M r body < have_all ts → turns_end ts r body ≡ true
unfolding have_all
end [] r body h = absurd (omega arith)
end (t ∷ ts) r body h =
    by_bool (over t r body)
    (now t ts r body)
    (λ o. later t ts r body o (end ts _ _ (one_fewer t.arrived (have_all ts) _ _ (falls_on t r body o) h)))

pub enough_turns : EnoughTurns
enough_turns ts r body h = end ts r body (omega (arith, rank_le r.scalars))
