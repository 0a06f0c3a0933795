-- How far single calls have counted. Assumes nothing.
use Rattle.std.specs.Prelude.{Option, Some, None}
use Prim.Native.Nat.{ℕ, suc, ◌+◌, ◌-◌, ◌≤◌, ◌<◌, zero-le}
use native.Mathlib.Omega.{arith}
use mathlib.Core.Path.{◌≡◌, sym, ◌∙◌}
use mathlib.Core.Bool.{true}
use mathlib.Core.List.{List}
use lib.ListN.{length, take, drop, length-drop}
use lib.Seq.{drop-drop, take_all}
use Rattle.item.specs.Said.{Said, gives, more, finish, refuses}
use Rattle.kinds.specs.declared.Version.{Version}
use Rattle.state.specs.State.{empty_reader}
use Rattle.state.specs.Reading.{Event, read_call, reader_after}
use Rattle.state.specs.Laws.{used_in}
use Rattle.state.specs.declared.Reader.{Reader}
use Rattle.calls.proofs.Theorems.{call_within}
use Rattle.count.specs.Count.{most, event_count, used_by}
use Rattle.count.proofs.Runs.{events, no_calls, most_calls_law, first_counts}

-- so many events were counted, and the rest is counted from the reader and the place reached
pub record Far (v : Version) (body : List ℕ) (r : Reader) (at count : ℕ) : Type 0 where
  pub within : at ≤ length body
  pub few : count ≤ most
  pub rest : event_count v body ≡ count + events (most - count) r (drop at body)

pub far_start : (v : Version) (body : List ℕ) → Far v body (empty_reader v) 0 0
far_start v body = record { within = zero-le; few = zero-le; rest = omega (arith, most_calls_law v body) }

-- the window of a call: the bytes from the place on
abbrev pub window_at : List ℕ → ℕ → List ℕ
window_at body at = take (length body - at) (drop at body)

pub whole : (body : List ℕ) (at : ℕ) → window_at body at ≡ drop at body
whole body at = take_all (length body - at) (drop at body) (omega (arith, length-drop at body))

used_within : (a : Said Event) (n : ℕ) → Some n ≡ used_by a → used_in a ≡ n
used_within (gives e n) m h = cc
used_within more m h = let z : ◌≡◌ {A = ℕ} 0 1 = cc in absurd (omega arith)
used_within (finish n) m h = let z : ◌≡◌ {A = ℕ} 0 1 = cc in absurd (omega arith)
used_within (refuses k vs) m h = let z : ◌≡◌ {A = ℕ} 0 1 = cc in absurd (omega arith)

module _ (v : Version) (body : List ℕ) (r : Reader) (at count : ℕ) (f : Far v body r at count) where
  pub far_full : most ≤ count → count ≡ event_count v body
  far_full h =
      let e : most - count ≡ 0 = omega (arith, h) in
      let s : event_count v body ≡ count + events 0 r (drop at body) = rw e at f.rest in
      omega (arith, s, no_calls r (drop at body))

  -- one call more, by the bytes that its event used
  module _ (h : count < most) (u : Option ℕ) (said : u ≡ used_by (read_call r (window_at body at) true).said) where
    here : u ≡ used_by (read_call r (drop at body) true).said
    here = rw (whole body at) at said

    left : ℕ
    left = most - (count + 1)

    rest : event_count v body ≡ count + events (suc left) r (drop at body)
    unfolding left
    rest =
        let e : most - count ≡ suc (most - (count + 1)) = omega (arith, h) in
        rw e at f.rest

    pub far_end : u ≡ None → count ≡ event_count v body
    far_end e =
        let n : events (suc left) r (drop at body) ≡ 0 = first_counts left r (drop at body) None (sym e ∙ here) in
        omega (arith, rest, n)

    pub far_more : (q : Reader) (n : ℕ) → u ≡ Some n → q ≡ reader_after (read_call r (window_at body at) true) → Far v body q (at + n) (count + 1)
    unfolding left
    far_more q n e is =
        let b : Some n ≡ used_by (read_call r (drop at body) true).said = sym e ∙ here in
        let w = call_within r (drop at body) true in
        let to : q ≡ reader_after (read_call r (drop at body) true) = rw (whole body at) at is in
        let d : events left (reader_after (read_call r (drop at body) true)) (drop n (drop at body)) ≡ events left q (drop (at + n) body) =
        rw (to, drop-drop) in
        record {
          within = omega (arith, f.within, w, used_within (read_call r (drop at body) true).said n b, length-drop at body);
          few = omega (arith, h);
          rest = omega (arith, rest, first_counts left r (drop at body) (Some n) b, d);
        }
