-- The bytes at hand: places inside the buffer, bytes used, bytes moved, bytes read. Assumes nothing.
use Prim.Native.Nat.{ℕ, zero, suc, ◌+◌, ◌-◌, ◌≤◌, ◌<◌, min}
use mathlib.Core.Path.{◌≡◌, sym, ◌∙◌, ap}
use mathlib.Core.List.{List, [], ◌∷◌, ◌++◌, append_assoc}
use native.Mathlib.Omega.{arith}
use borrow.Author.Tests.{leb-true, leb-false}
use lib.Dec.{leb}
use lib.ListN.{length, take, drop, set, get_or, length-take, length-append, drop_of_length-le}
use lib.Seq.{slice, slice_empty, length-slice, length-take-le, take_all, take-length, take-nil, take_at, drop-drop, get_or-take, get_or-drop, get_or-append-add, paste-suc}
use Rattle.num.proofs.Cases.{by_bool}
use Rattle.feed.specs.Feed.{unread, kept}
use Rattle.feed.specs.steps.Clamped.{clamped}
use Rattle.feed.specs.Laws.{Passes, Grows}
use Rattle.feed.specs.declared.Hand.{Hand}

-- ---- places inside the buffer

pub drop_take : (a e : ℕ) (l : List ℕ) → take (e - a) (drop a l) ≡ slice a e l
drop_take zero e l = let z : e - 0 ≡ e = omega arith in rw z
drop_take (suc a) zero l = let z : 0 - suc a ≡ 0 = omega arith in rw z
drop_take (suc a) (suc e) [] = take-nil (suc e - suc a)
drop_take (suc a) (suc e) (x ∷ xs) = let z : suc e - suc a ≡ e - a = omega arith in rw z (drop_take a e xs)

end_inside : (at e : ℕ) (l : List ℕ) → slice at (min e (length l)) l ≡ slice at e l
end_inside at e l =
    by_bool (leb e (length l))
    (λ t. let h = leb-true e (length l) t in
    let z : min e (length l) ≡ e = omega arith in
    rw z)
    (λ t. let h = leb-false e (length l) t in
    let z : min e (length l) ≡ length l = omega arith in
    rw (z, take-length l, take_all e l (omega arith)))

at_inside : (at e : ℕ) (l : List ℕ) → slice (min at e) e l ≡ slice at e l
at_inside at e l =
    by_bool (leb at e)
    (λ t. let h = leb-true at e t in
    let z : min at e ≡ at = omega arith in
    rw z)
    (λ t. let h = leb-false at e t in
    let z : min at e ≡ e = omega arith in
    let g : length (take e l) ≤ at = omega (arith, length-take e l) in
    rw (z, slice_empty e l) (sym (drop_of_length-le (take e l) g)))

pub inside : (h : Hand) (l : List ℕ) → unread (clamped h (length l)) l ≡ unread h l
inside h l = at_inside h.at (min h.end (length l)) l ∙ end_inside h.at h.end l

pub places : (h : Hand) (l : List ℕ) (r : Hand) → r ≡ clamped h (length l) → (r.at ≤ r.end) × (r.end ≤ length l)
places h l r e = rw e (omega arith, omega arith)

pub shown : (h : Hand) (l : List ℕ)
    → take ((clamped h (length l)).end - (clamped h (length l)).at) (drop (clamped h (length l)).at l) ≡ unread h l
shown h l = drop_take (clamped h (length l)).at (clamped h (length l)).end l ∙ inside h l

-- ---- bytes used

pub passes : Passes
passes h used buf =
    let w = take h.end buf in
    let l = length-take h.end buf in
    let at : ℕ = h.end - (h.end - h.at - used) in
    by_bool (leb (h.at + used) h.end)
    (λ t. let g = leb-true (h.at + used) h.end t in
    let z : at ≡ h.at + used = omega arith in
    rw z (sym (drop-drop used h.at w)))
    (λ t. let g = leb-false (h.at + used) h.end t in
    let z : at ≡ h.end = omega arith in
    let x : length w ≤ h.end = omega arith in
    let y : length w ≤ h.at + used = omega arith in
    rw z (drop_of_length-le w x ∙ sym (drop_of_length-le w y) ∙ sym (drop-drop used h.at w)))

-- ---- bytes moved to the front

abbrev pub moved : List ℕ → List ℕ → ℕ → List ℕ
moved d w i = take i w ++ drop i d

pub one_more : (d w : List ℕ) (i : ℕ) → i < length d → i < length w → set (moved d w i) i (get_or w i 0) ≡ moved d w (suc i)
one_more d w i a b =
    let e : 0 + i ≡ i = omega arith in
    let f : 0 + suc i ≡ suc i = omega arith in
    rw (e, f) at (paste-suc d 0 w i 0 (omega arith) b)

-- the byte to move stands where it was
pub ahead : (d : List ℕ) (at end i : ℕ) → at + i < end → end ≤ length d
    → get_or (moved d (slice at end d) i) (at + i) 0 ≡ get_or (slice at end d) i 0
ahead d at end i h k =
    let w = slice at end d in
    let n = length-slice at end d k in
    let l = length-take-le i w (omega arith) in
    let e : at + i ≡ length (take i w) + at = omega arith in
    let f : i + at ≡ at + i = omega arith in
    ap (λ (j : ℕ). get_or (moved d w i) j 0) e ∙ get_or-append-add (take i w) (drop i d) at 0 ∙ get_or-drop i d at 0
    ∙ ap (λ (j : ℕ). get_or d j 0) f
    ∙ sym (get_or-take end d (at + i) 0 h) ∙ sym (get_or-drop at (take end d) i 0)

pub all_moved : (d : List ℕ) (at end i : ℕ) → end ≤ length d → i ≡ end - at → moved d (slice at end d) i ≡ kept (slice at end d) d
all_moved d at end i k e =
    let n = length-slice at end d k in
    let f : i ≡ length (slice at end d) = e ∙ sym n in
    rw (f, take-length (slice at end d))

pub kept_is_law : (h : Hand) (l : List ℕ) (c : Hand) → c ≡ clamped h (length l) → (n : ℕ) (ys : List ℕ) → n ≡ c.end - c.at
    → ys ≡ kept (slice c.at c.end l) l → (n ≡ length (unread h l)) × ((ys ≡ kept (unread h l) l) × (n ≤ length ys))
kept_is_law h l c e n ys f g =
    let s : slice c.at c.end l ≡ unread h l = rw e (inside h l) in
    let size : n ≡ length (unread h l) = f ∙ sym (length-slice c.at c.end l (places h l c e).1) ∙ ap length s in
    let bytes : ys ≡ kept (unread h l) l = g ∙ ap (λ (b : List ℕ). kept b l) s in
    (size, (bytes, omega (arith, ap length bytes, length-append (unread h l) (drop (length (unread h l)) l))))

-- ---- bytes read

pub grows : Grows
grows bytes got rest =
    let l : length (bytes ++ (got ++ rest)) ≡ length bytes + (length got + length rest) =
    length-append bytes (got ++ rest) ∙ ap (λ (n : ℕ). length bytes + n) (length-append got rest) in
    let e : min (length bytes) (length (bytes ++ (got ++ rest))) + min (length got) (length (bytes ++ (got ++ rest)) - length bytes)
    ≡ length bytes + length got = omega arith in
    rw (e, ← append_assoc bytes got rest) (take_at (bytes ++ got) rest (length bytes + length got) (length-append bytes got))
