-- Integers read one after the other: the bytes that they use are enough to read them, and hold no others. Assumes nothing.
use Rattle.std.specs.Prelude.{Option}
use Prim.Native.Nat.{ℕ, zero, suc, ◌+◌, ◌-◌, ◌≤◌, ◌<◌}
use mathlib.Core.Path.{◌≡◌, refl, sym, ◌∙◌, ap}
use mathlib.Core.Bool.{true, false}
use mathlib.Core.List.{List, [], ◌∷◌, ◌++◌}
use native.Mathlib.Omega.{arith}
use lib.ListN.{length, get_or, take, drop, length-append, length-take, length-drop, drop_of_length-le}
use lib.Seq.{get_or-append-add, get_or-take, take-nil, length-take-le}
use lib.IntN.{ℤ, pos}
use Rattle.num.proofs.Cases.{by_bool}
use Rattle.varint.specs.Integers.{sign_of, is_last, amount, read_from, read_int}
use Rattle.varint.specs.declared.Remark.{Remark}
use Rattle.varint.specs.declared.IntRead.TheVariants.{Got}
use Rattle.demand.specs.Events.{integers, last_two, difference}

-- ---- one integer: it uses a byte or more, and no byte past them matters

module _ (at sign : ℕ) (v : ℤ) (next : ℕ) (r : Option Remark) where
  record From (s : List ℕ) (k n : ℕ) : Type 0 where
    more : at + k < next
    within : next ≤ at + k + length s
    cut : (m : ℕ) → next ≤ at + k + m → read_from (take m s) at k sign n ≡ Got v next r

  -- the byte b at k is the last, or another follows
  module _ (b : ℕ) (s : List ℕ) (k n : ℕ) where
    at_last : is_last k b ≡ true → read_from (b ∷ s) at k sign n ≡ Got v next r → From (b ∷ s) k n
    unfolding read_from
    at_last e f =
        let q = rw e at f in
        let p : next ≡ at + k + 1 = cc in
        let go : (m : ℕ) → next ≤ at + k + m → read_from (take m (b ∷ s)) at k sign n ≡ Got v next r =
        elim [ zero ↦ λ h. absurd (omega arith) | suc m ↦ λ h. rw e q ] in
        record { more = omega arith; within = omega arith; cut = go }

    before_last : is_last k b ≡ false → From s (k + 1) (n + amount k b) → From (b ∷ s) k n
    unfolding read_from
    before_last e f =
        let go : (m : ℕ) → next ≤ at + k + m → read_from (take m (b ∷ s)) at k sign n ≡ Got v next r =
        elim [ zero ↦ λ h. absurd (omega (arith, f.more)) | suc m ↦ λ h. rw e (f.cut m (omega arith)) ] in
        record { more = omega (arith, f.more); within = omega (arith, f.within); cut = go }

  from : (s : List ℕ) (k n : ℕ) → read_from s at k sign n ≡ Got v next r → From s k n
  unfolding read_from
  from [] k n f = let z : ◌≡◌ {A = ℕ} 0 1 = cc in absurd (omega arith)
  from (b ∷ s) k n f =
      by_bool (is_last k b)
      (λ e. at_last b s k n e f)
      (λ e. before_last b s k n e (from s (k + 1) (n + amount k b) (rw e at f)))

drop_take : {A : Type 0} (k m : ℕ) (l : List A) → drop k (take (k + m) l) ≡ take m (drop k l)
drop_take zero m l = let q : 0 + m ≡ m = omega arith in rw q
drop_take (suc k) m [] = let q : suc k + m ≡ suc (k + m) = omega arith in rw q (sym (take-nil m))
drop_take (suc k) m (x ∷ l) = let q : suc k + m ≡ suc (k + m) = omega arith in rw q (drop_take k m l)

record Uses (w : List ℕ) (at : ℕ) (v : ℤ) (next : ℕ) (r : Option Remark) : Type 0 where
  more : at < next
  within : next ≤ length w
  cut : (m : ℕ) → next ≤ m → read_int (take m w) at ≡ Got v next r

uses : (w : List ℕ) (at : ℕ) (v : ℤ) (next : ℕ) (r : Option Remark) → read_int w at ≡ Got v next r → Uses w at v next r
unfolding read_int
uses w at v next r e =
    let f = from at (sign_of (get_or w at 0)) v next r (drop at w) 0 0 e in
    let m1 = f.more in
    let w1 = f.within in
    let d = length-drop at w in
    let go : (m : ℕ) → next ≤ m → read_int (take m w) at ≡ Got v next r =
    λ m h.
    let q : m ≡ at + (m - at) = omega arith in
    let g : get_or (take m w) at 0 ≡ get_or w at 0 = get_or-take m w at 0 (omega arith) in
    let t : drop at (take m w) ≡ take (m - at) (drop at w) = ap (λ (i : ℕ). drop at (take i w)) q ∙ drop_take at (m - at) w in
    rw (g, t) (f.cut (m - at) (omega arith)) in
    record { more = omega arith; within = omega arith; cut = go }

-- ---- several

pub data Run (w : List ℕ) : ℕ → List ℤ → ℕ → Type 0 where
  none : {at : ℕ} → Run w at [] at
  one : {at m next : ℕ} {z : ℤ} {zs : List ℤ} (r : Option Remark) → read_int w at ≡ Got z m r → Run w m zs next → Run w at (z ∷ zs) next

pub run_append : {w : List ℕ} {a b c : ℕ} {xs ys : List ℤ} → Run w a xs b → Run w b ys c → Run w a (xs ++ ys) c
run_append none t = t
run_append (one r e s) t = one r e (run_append s t)

-- each uses a byte or more
run_length : {w : List ℕ} {at next : ℕ} {zs : List ℤ} → Run w at zs next → at + length zs ≤ next
run_length none = omega arith
run_length {w} (one {at} {m} {next} {z} {zs} r e s) = omega (arith, run_length s, (uses w at z m r e).more)

run_within : {w : List ℕ} {at next : ℕ} {zs : List ℤ} → Run w at zs next → at ≤ length w → next ≤ length w
run_within none h = h
run_within {w} (one {at} {m} {next} {z} r e s) h = run_within s (uses w at z m r e).within

-- past the end there is none
none_left : (k : ℕ) (w : List ℕ) (at : ℕ) → length w ≤ at → integers k w at ≡ []
unfolding integers read_int read_from
none_left zero w at h = refl
none_left (suc k) w at h = rw (drop_of_length-le w h)

-- the integers in the bytes used are those that were read
run_integers : {w : List ℕ} {at next : ℕ} {zs : List ℤ} → Run w at zs next → (k : ℕ) → length zs ≤ k → integers k (take next w) at ≡ zs
unfolding integers
run_integers {w} (none {at}) k h = none_left k (take at w) at (omega (arith, length-take at w))
run_integers {w} (one {at} {m} {next} {z} {zs} r e s) zero h = absurd (omega arith)
run_integers {w} (one {at} {m} {next} {z} {zs} r e s) (suc k) h =
    rw ((uses w at z m r e).cut next (omega (arith, run_length s))) (ap (λ (l : List ℤ). z ∷ l) (run_integers s k (omega arith)))

last_two_law : (zs : List ℤ) (x y : ℤ) → last_two (zs ++ x ∷ y ∷ []) ≡ (x, y)
unfolding last_two
last_two_law zs x y =
    let l = zs ++ x ∷ y ∷ [] in
    let n = length-append zs (x ∷ y ∷ []) in
    let a : length l - 2 ≡ length zs + 0 = omega (arith, n) in
    let b : length l - 1 ≡ length zs + 1 = omega (arith, n) in
    rw (a, b, get_or-append-add zs (x ∷ y ∷ []) 0 (pos 0), get_or-append-add zs (x ∷ y ∷ []) 1 (pos 0))

-- a window's first integers: the last two of them
pub run_difference : {w : List ℕ} {next : ℕ} (zs : List ℤ) (x y : ℤ) → Run w 0 (zs ++ x ∷ y ∷ []) next → difference (take next w) ≡ (x, y)
unfolding difference
run_difference {w} {next} zs x y s =
    let l = length-take-le next w (run_within s (omega arith)) in
    rw (run_integers s (length (take next w)) (omega (arith, run_length s))) (last_two_law zs x y)
