-- The window of what is at hand of a body: a call on it says what the call on the body's window says. Assumes nothing.
use Prim.Native.Nat.{ℕ, suc, ◌+◌, ◌-◌, ◌≤◌, ◌<◌, min}
use mathlib.Core.Path.{◌≡◌, refl, sym, ◌∙◌, ap}
use mathlib.Core.Bool.{Bool, true, false}
use mathlib.Core.List.{List, [], ◌++◌, append-nil}
use native.Mathlib.Omega.{arith}
use borrow.Author.Tests.{lt-ltb, ltb-true, ltb-false, le-ltb, leb-true, leb-false}
use lib.Dec.{ltb, leb}
use lib.ListN.{length, take, drop, length-take, length-drop, drop_of_length-le}
use lib.Seq.{take_all, take-length, take-take, take-append-add}
use Rattle.num.proofs.Cases.{by_bool}
use Rattle.item.specs.Said.{Said, gives, more, finish, refuses}
use Rattle.state.specs.Reading.{Event, read_call, reader_after}
use Rattle.state.specs.declared.Reader.{Reader}
use Rattle.calls.specs.Calls.{is_pending, Seen, seen_by}
use Rattle.calls.specs.Along.{along, wants_more, Run, before, on_said, calls}
use Rattle.windows.specs.Windows.{full, window_of, is_short, is_last_window}
use Rattle.windows.specs.Turns.{Arrived, some, all, at_hand, has_ended}
use Rattle.calls.specs.Laws.{NotMore}
use Rattle.calls.proofs.Singles.{call_longer}

-- ---- the window of what is left of a body, of which a front w is at hand

-- where the window is the last, all is at hand
abbrev pub Fits : Bool → List ℕ → List ℕ → Type 0
Fits true w z = (z ≡ []) × (length w < full)
Fits false w z = length w ≤ full

pub window_longer : (w z : List ℕ) → length w ≤ full → window_of (w ++ z) ≡ w ++ take (full - length w) z
window_longer w z h =
    let e : full ≡ length w + (full - length w) = omega arith in
    ap (λ (n : ℕ). take n (w ++ z)) e ∙ take-append-add w z (full - length w)

pub same_call : (r : Reader) (w z : List ℕ) (last : Bool) → Fits last w z → NotMore (read_call r w last).said
    → read_call r (window_of (w ++ z)) (is_last_window true (w ++ z)) ≡ read_call r w last
same_call r w z true f h =
    let e : w ++ z ≡ w = ap (λ (l : List ℕ). w ++ l) f.0 ∙ append-nil w in
    rw (e, lt-ltb (length w) full f.1, take_all full w (omega (arith, f.1)))
same_call r w z false f h =
    rw (window_longer w z f) (call_longer r w (take (full - length w) z) (is_last_window true (w ++ z)) h)

pub fits_on : (last : Bool) (w z : List ℕ) (n : ℕ) → Fits last w z → Fits last (drop n w) z
fits_on true w z n f = (f.0, omega (arith, length-drop n w, f.1))
fits_on false w z n f = omega (arith, length-drop n w)

-- ---- the window of a turn, and what is left behind it

-- its end is no further than the bytes
pub take_least : (l : List ℕ) (c : ℕ) → take (min (length l) c) l ≡ take c l
take_least l c =
    by_bool (leb (length l) c)
    (λ t. let h = leb-true (length l) c t in
    let e : min (length l) c ≡ length l = omega arith in
    rw e (take-length l ∙ sym (take_all c l h)))
    (λ t. let h = leb-false (length l) c t in
    let e : min (length l) c ≡ c = omega arith in
    rw e)

abbrev pub reach : Arrived → ℕ
reach (some n) = min full n
reach all = full

pub window_of_law : (a : Arrived) (body : List ℕ) → window_of (at_hand a body) ≡ take (reach a) body
window_of_law (some n) body =
    by_bool (leb full n)
    (λ t. let h = leb-true full n t in
    let e : min full n ≡ full = omega arith in
    rw e (take-take full n body h))
    (λ t. let h = leb-false full n t in
    let e : min full n ≡ n = omega arith in
    rw e (take_all full (take n body) (omega (arith, length-take n body))))
window_of_law all body = refl

pub start_fits : (a : Arrived) (body : List ℕ) → Fits (is_last_window (has_ended a) (at_hand a body)) (take (reach a) body) (drop (reach a) body)
start_fits (some n) body = omega (arith, length-take (min full n) body)
start_fits all body =
    let l = length-take full body in
    by_bool (ltb (length body) full)
    (λ t. let h = ltb-true (length body) full t in rw t (let g : length body ≤ full = omega arith in (drop_of_length-le body g, omega arith)))
    (λ t. rw t (omega arith))

-- a full window is the body's, and not the last
pub full_window : (a : Arrived) (body : List ℕ) → is_short (at_hand a body) ≡ false
    → (window_of (at_hand a body) ≡ window_of body) × ((is_last_window (has_ended a) (at_hand a body) ≡ false) × (is_last_window true body ≡ false))
full_window (some n) body t =
    let h = ltb-false (length (take n body)) full t in
    let l = length-take n body in
    (take-take full n body (omega arith), (refl, le-ltb (length body) full (omega arith)))
full_window all body t = (refl, (t, t))

-- ---- the first call of a turn

-- no event, and more: the first call says so
of_said : (a : Said Event) (next : Event → ℕ → Run) (x : Event → ℕ → Seen) (left : Reader)
    → (on_said a (λ e m. before (x e m) (next e m)) left).halt ≡ wants_more → length (on_said a (λ e m. before (x e m) (next e m)) left).seen ≡ 0
    → a ≡ more
of_said (gives e m) next x left h l = absurd (omega arith)
of_said more next x left h l = refl
of_said (finish m) next x left h l = let z : ◌≡◌ {A = ℕ} 0 1 = cc in absurd (omega arith)
of_said (refuses k vs) next x left h l = let z : ◌≡◌ {A = ℕ} 0 1 = cc in absurd (omega arith)

pub first_more : (n : ℕ) (r : Reader) (w : List ℕ) (last : Bool) → (calls (suc n) r w last).halt ≡ wants_more
    → length (calls (suc n) r w last).seen ≡ 0 → (read_call r w last).said ≡ more
unfolding along
first_more n r w last h e =
    let t = read_call r w last in
    of_said t.said (λ e m. calls n (reader_after t) (drop m w) last) (λ e m. seen_by (is_pending r.scalars.pending) w t e m) (reader_after t) h e
