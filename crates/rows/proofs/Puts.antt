-- Numbers in their place of a lent memory. Assumes nothing.
use Prim.Native.Nat.{ℕ, suc, ◌+◌, ◌≤◌, ◌<◌}
use mathlib.Core.Path.{◌≡◌, refl, sym, ap, ◌∙◌}
use mathlib.Core.List.{List, [], ◌∷◌, ◌++◌, append_assoc}
use native.Mathlib.Omega.{arith}
use lib.ListN.{length, take, drop, set, take-append-drop, length-append, length-take, length-drop}
use lib.Seq.{sets-eq, paste, take_all, take_at, drop_at, drop-drop}
use lib.IntN.{ℤ, pos}
use borrow.Author.Tests.{lt-ltb, le-ltb}
use Rattle.num.specs.Wrap.{wrap32}
use Rattle.state.specs.Reading.{Event}
use Rattle.rows.specs.Rows.{put, room}
use Rattle.rows.specs.steps.Stores.{Filled, EventPut}

pub put_length : (l : List ℤ) (at : ℕ) (ns : List ℤ) → at + length ns ≤ length l → length (put l at ns) ≡ length l
unfolding put
put_length l at ns h = simp (length-append, length-take, length-drop) (omega arith)

pub put_none : (l : List ℤ) (at : ℕ) → put l at [] ≡ l
unfolding put
put_none l at =
    let e : at + 0 ≡ at = omega arith in
    rw e (take-append-drop at l)

-- event i, where there is room for it
pub placed : {e : Event} {used : ℕ} {pending : ℤ} {i : ℕ} {ten former t₀ rows₀ tens₀ t₁ rows₁ tens₁ : List ℤ} → i < room rows₀ tens₀
    → EventPut e used pending i ten former t₀ rows₀ tens₀ t₁ rows₁ tens₁
    → Filled e (wrap32 (pos used)) pending i ten former t₀ rows₀ tens₀ t₁ rows₁ tens₁
placed {i = i} {rows₀ = rows₀} {tens₀ = tens₀} h p =
    let t = lt-ltb i (room rows₀ tens₀) h in
    record { teams = rw t at p.teams; rows = rw t at p.rows; tens = rw t at p.tens }

pub fits : {e : Event} {used : ℕ} {pending : ℤ} {i : ℕ} {ten former t₀ rows₀ tens₀ t₁ rows₁ tens₁ : List ℤ} → i < room rows₀ tens₀
    → Filled e (wrap32 (pos used)) pending i ten former t₀ rows₀ tens₀ t₁ rows₁ tens₁
    → EventPut e used pending i ten former t₀ rows₀ tens₀ t₁ rows₁ tens₁
fits {i = i} {rows₀ = rows₀} {tens₀ = tens₀} h f =
    let t = lt-ltb i (room rows₀ tens₀) h in
    record { teams = rw t f.teams; rows = rw t f.rows; tens = rw t f.tens }

-- where there is none
pub no_room : {e : Event} {used : ℕ} {pending : ℤ} {i : ℕ} {ten former t rows tens : List ℤ} → room rows tens ≤ i
    → EventPut e used pending i ten former t rows tens t rows tens
no_room {i = i} {rows = rows} {tens = tens} h =
    let t = le-ltb i (room rows tens) h in
    record { teams = rw t; rows = rw t; tens = rw t }

-- the numbers with what stands before them, then the rest
apart : (l : List ℤ) (at n : ℕ) (ns : List ℤ) → length ns ≡ n → (take at l ++ ns) ++ drop (at + n) l ≡ put l at ns
unfolding put
apart l at n ns e = append_assoc (take at l) ns (drop (at + n) l) ∙ ap (λ (k : ℕ). take at l ++ (ns ++ drop (at + k) l)) (sym e)

-- a row as eight stores
pub eight_sets : (l : List ℤ) (at : ℕ) (x a b c d e f g : ℤ) → at + 8 ≤ length l
    → set (set (set (set (set (set (set (set l at x) (at + 1) a) (at + 2) b) (at + 3) c) (at + 4) d) (at + 5) e) (at + 6) f) (at + 7) g
    ≡ put l at (x ∷ a ∷ b ∷ c ∷ d ∷ e ∷ f ∷ g ∷ [])
eight_sets l at x a b c d e f g h =
    let e1 : at + 1 ≡ suc at = omega arith in
    let e2 : at + 2 ≡ suc (suc at) = omega arith in
    let e3 : at + 3 ≡ suc (suc (suc at)) = omega arith in
    let e4 : at + 4 ≡ suc (suc (suc (suc at))) = omega arith in
    let e5 : at + 5 ≡ suc (suc (suc (suc (suc at)))) = omega arith in
    let e6 : at + 6 ≡ suc (suc (suc (suc (suc (suc at))))) = omega arith in
    let e7 : at + 7 ≡ suc (suc (suc (suc (suc (suc (suc at)))))) = omega arith in
    let ns = x ∷ a ∷ b ∷ c ∷ d ∷ e ∷ f ∷ g ∷ [] in
    rw (e1, e2, e3, e4, e5, e6, e7) (sets-eq ns l at h ∙ apart l at 8 ns refl)

-- all of a loop's stores
pub put_pasted : (l : List ℤ) (at n : ℕ) (ns : List ℤ) → length ns ≡ n → paste l at ns n ≡ put l at ns
put_pasted l at n ns e =
    ap (λ (xs : List ℤ). (take at l ++ xs) ++ drop (at + n) l) (take_all n ns (omega arith)) ∙ apart l at n ns e

-- numbers behind numbers
pub put_put : (l : List ℤ) (at n : ℕ) (xs ys : List ℤ) → length xs ≡ n → at + n ≤ length l → put (put l at xs) (at + n) ys ≡ put l at (xs ++ ys)
unfolding put
put_put l at n xs ys e h =
    let p = take at l ++ xs in
    let q = drop (at + n) l in
    let size : length p ≡ at + n = length-append (take at l) xs ∙ (simp length-take (omega arith)) in
    let all : put l at xs ≡ p ++ q = sym (apart l at n xs e) in
    let rest : drop (at + n + length ys) (p ++ q) ≡ drop (at + n + length ys) l =
    sym (drop-drop (length ys) (at + n) (p ++ q)) ∙ ap (drop (length ys)) (drop_at p q (at + n) size) ∙ drop-drop (length ys) (at + n) l in
    let sum : at + n + length ys ≡ at + length (xs ++ ys) = omega (arith, length-append xs ys) in
    ap (λ (z : List ℤ). take (at + n) z ++ (ys ++ drop (at + n + length ys) z)) all
    ∙ (λ i. take_at p q (at + n) size i ++ (ys ++ rest i))
    ∙ append_assoc (take at l) xs (ys ++ drop (at + n + length ys) l)
    ∙ ap (λ (z : List ℤ). take at l ++ z) (sym (append_assoc xs ys (drop (at + n + length ys) l)))
    ∙ ap (λ (k : ℕ). take at l ++ ((xs ++ ys) ++ drop k l)) sum
