-- What is told of a run and of a body: its events, and then how it ends. Assumes nothing.
use Prim.Native.Nat.{ℕ, ◌+◌}
use mathlib.Core.Path.{◌≡◌, refl, ◌∙◌, ap, subst, sym}
use mathlib.Core.Bool.{false}
use mathlib.Core.List.{List, [], ◌∷◌, ◌++◌, map, flat_map}
use native.Mathlib.Omega.{arith}
use lib.ListN.{length}
use Rattle.state.specs.State.{empty_reader}
use Rattle.state.specs.declared.Reader.{Reader}
use Rattle.calls.specs.Calls.{Seen}
use Rattle.calls.specs.Along.{along, enough, Halt, is_full, wants_more, finishes, is_refused, Run}
use Rattle.calls.proofs.Theorems as calls
use Rattle.windows.specs.Windows.{Last, finished, refused_with, window_too_long, lines_by, ending_by, window_call, printed_from}
use Rattle.windows.specs.Telling.{Heard, an_event, the_end, telling, events_told, RunTold, ToldWhole, BodyTold}
use Rattle.windows.proofs.Bound.{window_within}

pub events_told_law : (xs : List Seen) → lines_by telling xs ≡ events_told xs
unfolding flat_map
events_told_law [] = refl
events_told_law (x ∷ xs) = ap (λ (l : List Heard). an_event x.event ∷ l) (events_told_law xs)

pub run_told : RunTold
run_told short run = ap (λ (l : List Heard). l ++ ending_by telling short run.halt (length run.seen)) (events_told_law run.seen)

-- ---- a body

-- enough calls end with an answer that is no event
pub not_full : (r : Reader) (body : List ℕ) → (along window_call (enough body) r body).halt ≡ is_full → ⊥
not_full r body h =
    let e = calls.enough_calls window_call window_within 1 r body in
    let l = ap (λ (run : Run). length run.seen) e in
    let all = (calls.few_events window_call (enough body + 1) r body).1 (ap (λ (run : Run). run.halt) e ∙ h) in
    omega (arith, l, all, (calls.few_events window_call (enough body) r body).0)

events_of_law : (xs : List Seen) → events_told xs ≡ map an_event (map (λ (x : Seen). x.event) xs)
events_of_law [] = refl
events_of_law (x ∷ xs) = ap (λ (l : List Heard). an_event x.event ∷ l) (events_of_law xs)

ending_with : (xs : List Seen) (l : Last) → ToldWhole (events_told xs ++ the_end l ∷ [])
ending_with xs l =
    record {
      events = map (λ (x : Seen). x.event) xs;
      last = l;
      same = ap (λ (ts : List Heard). ts ++ the_end l ∷ []) (events_of_law xs);
    }

one_end : (h : Halt) (xs : List Seen) → (h ≡ is_full → ⊥) → ToldWhole (events_told xs ++ ending_by telling false h 0)
one_end is_full xs f = absurd (f refl)
one_end wants_more xs f = ending_with xs window_too_long
one_end finishes xs f = ending_with xs finished
one_end (is_refused k vs) xs f = ending_with xs (refused_with k)

pub body_told : BodyTold
unfolding printed_from
body_told v body =
    let run = along window_call (enough body) (empty_reader v) body in
    subst (λ (l : List Heard). ToldWhole (l ++ ending_by telling false run.halt 0)) (sym (events_told_law run.seen))
    (one_end run.halt run.seen (not_full (empty_reader v) body))
