-- A run that a refusal ends, up to it; a body ends in finish or a refusal. Assumes nothing.
use Prim.Native.Nat.{ℕ, zero, suc, ◌+◌}
use mathlib.Core.Path.{◌≡◌, refl, sym, ap, subst, ◌∙◌}
use mathlib.Core.Bool.{Bool, true, false≢true}
use mathlib.Core.List.{List, ◌∷◌}
use native.Mathlib.Omega.{arith}
use lib.ListN.{length, drop}
use lib.Seq.{drop-drop}
use lib.IntN.{ℤ}
use Rattle.item.specs.Said.{Said, gives, more, finish, refuses}
use Rattle.state.specs.State.{empty_reader}
use Rattle.state.specs.Reading.{Event, Step, read_call, reader_after}
use Rattle.state.specs.declared.Reader.{Reader}
use Rattle.calls.specs.Calls.{Seen}
use Rattle.calls.specs.Along.{Halt, is_full, wants_more, finishes, is_refused, Run, before, along, all_of, calls, enough}
use Rattle.calls.proofs.Singles.{more_leaves}
use Rattle.calls.proofs.Runs.{first_seen, follow}
use Rattle.calls.proofs.Theorems.{few_events, enough_calls}
use Rattle.listed.specs.Listed.{body_run}
use Rattle.listed.specs.Laws.{Ends, BodyEnds, UpTo, RefusedListed}

-- ---- a refusal

module _ (c : ℕ) (r : Reader) (w : List ℕ) (last : Bool) (k : ℕ) (vs : List ℤ) where
  abbrev t : Step
  t = read_call r w last

  one_first : (e : Event) (n : ℕ) → t.said ≡ gives e n → (run : Run) → UpTo run (calls (length run.seen) (reader_after t) (drop n w) last) (drop n w) last k vs
      → UpTo (before (first_seen (all_of last) c r w e n) run) (calls (suc (length run.seen)) r w last) w last k vs
  unfolding along
  one_first e n s run h =
      let x = first_seen (all_of last) c r w e n in
      let q = calls (length run.seen) (reader_after t) (drop n w) last in
      subst (λ (a : Said Event). UpTo (before x run) (follow (all_of last) (length run.seen) r w a) w last k vs) (sym s)
      (record {
        halt = h.halt;
        seen = ap (λ (xs : List Seen). x ∷ xs) h.seen;
        next = ap (λ (l : List ℕ). (read_call q.reader l last).said) (sym (drop-drop q.used n w)) ∙ h.next;
      })

  stops_said : (a : Said Event) → t.said ≡ a → (follow (all_of last) c r w a).halt ≡ is_refused k vs
      → ((n : ℕ) → (calls c (reader_after t) (drop n w) last).halt ≡ is_refused k vs
      → UpTo (calls c (reader_after t) (drop n w) last) (calls (length (calls c (reader_after t) (drop n w) last).seen) (reader_after t) (drop n w) last) (drop n w) last k vs)
      → UpTo (follow (all_of last) c r w a) (calls (length (follow (all_of last) c r w a).seen) r w last) w last k vs
  unfolding along
  stops_said (gives e n) s h again = one_first e n s (calls c (reader_after t) (drop n w) last) (again n h)
  stops_said more s h again = let z : ◌≡◌ {A = ℕ} 0 1 = cc in absurd (omega arith)
  stops_said (finish n) s h again = let z : ◌≡◌ {A = ℕ} 0 1 = cc in absurd (omega arith)
  stops_said (refuses j us) s h again = record { halt = refl; seen = refl; next = cc }

pub stops : (c : ℕ) (r : Reader) (w : List ℕ) (last : Bool) (k : ℕ) (vs : List ℤ) → (calls c r w last).halt ≡ is_refused k vs
    → UpTo (calls c r w last) (calls (length (calls c r w last).seen) r w last) w last k vs
unfolding along
stops zero r w last k vs h = let z : ◌≡◌ {A = ℕ} 0 1 = cc in absurd (omega arith)
stops (suc c) r w last k vs h =
    stops_said c r w last k vs (read_call r w last).said refl h
    (λ n q. stops c (reader_after (read_call r w last)) (drop n w) last k vs q)

pub refused_listed : RefusedListed
refused_listed v body k vs h = stops (enough body) (empty_reader v) body true k vs h

-- ---- the end of a body

-- with the flag on no call wants more
abbrev NotMoreAt : Halt → Type 0
NotMoreAt is_full = Unit {0}
NotMoreAt wants_more = ⊥
NotMoreAt finishes = Unit {0}
NotMoreAt (is_refused k vs) = Unit {0}

last_said : (c : ℕ) (r : Reader) (w : List ℕ) (a : Said Event) → (read_call r w true).said ≡ a
    → ((q : Reader) (l : List ℕ) → NotMoreAt (calls c q l true).halt) → NotMoreAt (follow (all_of true) c r w a).halt
last_said c r w (gives e n) s again = again (reader_after (read_call r w true)) (drop n w)
last_said c r w more s again = absurd (false≢true (sym (more_leaves r w true s).0))
last_said c r w (finish n) s again = tt
last_said c r w (refuses k vs) s again = tt

not_more : (c : ℕ) (r : Reader) (w : List ℕ) → NotMoreAt (calls c r w true).halt
unfolding along
not_more zero r w = tt
not_more (suc c) r w = last_said c r w (read_call r w true).said refl (λ q l. not_more c q l)

-- so many calls are enough, so the next one would not end them either
not_full : (r : Reader) (w : List ℕ) (last : Bool) → (calls (enough w) r w last).halt ≡ is_full → ⊥
not_full r w last h =
    let same = enough_calls (all_of last) (λ b. omega arith) 1 r w in
    let more-seen = (few_events (all_of last) (enough w + 1) r w).1 (ap (λ (x : Run). x.halt) same ∙ h) in
    omega (arith, (few_events (all_of last) (enough w) r w).0, ap (λ (x : Run). length x.seen) same, more-seen)

ends : (h : Halt) → (h ≡ is_full → ⊥) → NotMoreAt h → Ends h
ends is_full f n = f refl
ends wants_more f n = n
ends finishes f n = tt
ends (is_refused k vs) f n = tt

pub body_ends : BodyEnds
body_ends v body = ends (body_run v body).halt (not_full (empty_reader v) body true) (not_more (enough body) (empty_reader v) body)
