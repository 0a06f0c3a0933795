-- How many rows, of how many finishes. Assumes nothing.
use Prim.Native.Nat.{ℕ, zero, suc, ◌+◌, ◌≤◌, ◌<◌}
use mathlib.Core.Path.{◌≡◌, refl, sym, ◌∙◌}
use mathlib.Core.Bool.{Bool, true, false, cond, ◌&&◌}
use mathlib.Core.List.{List, [], ◌∷◌, ◌++◌}
use native.Mathlib.Omega.{arith}
use lib.Dec.{ltb, eqb}
use lib.ListN.{length}
use lib.IntN.{ℤ, pos, negsuc}
use borrow.Author.Tests.{ltb-true, lt-ltb, eqb-true, eqb-false, eq-eqb, ne_eqb}
use Rattle.num.proofs.Cases.{by_bool}
use Rattle.state.specs.State.{same_int}
use Rattle.results.specs.Results.{Finish, best, bests_below}
use Rattle.results.proofs.Bests.{KeptOf, kept_best}
use Rattle.ranking.specs.Ranking.{how_many}
use Rattle.ranking.specs.Laws.{of_client}
use Rattle.ranking.proofs.Order.{joined}

-- ---- clients below a number

abbrev pub is_below : ℕ → ℤ → Bool
is_below n (pos c) = ltb c n
is_below n (negsuc c) = false

-- a client is below n + 1 if it is below n or n itself, and not both
next_client : (n : ℕ) (z : ℤ) → cond (is_below n z) 1 0 + cond (same_int z (pos n)) 1 0 ≤ cond (is_below (suc n) z) 1 0
next_client n (negsuc c) = omega arith
next_client n (pos c) =
    by_bool (ltb c n)
    (λ t. let h = ltb-true c n t in
    by_bool (eqb c n)
    (λ e. let q = eqb-true c n e in absurd (omega arith))
    (λ e. rw (t, e, lt-ltb c (suc n) (omega arith)) (omega arith)))
    (λ t. by_bool (eqb c n)
    (λ e. let q = eqb-true c n e in rw (t, e, lt-ltb c (suc n) (omega arith)) (omega arith))
    (λ e. rw (t, e) (omega arith)))

eqb_sym : (a b : ℕ) → eqb a b ≡ eqb b a
eqb_sym a b =
    by_bool (eqb a b)
    (λ e. e ∙ sym (eq-eqb b a (sym (eqb-true a b e))))
    (λ e. e ∙ sym (ne_eqb b a (λ q. eqb-false a b e (sym q))))

same_sym : (a b : ℤ) → same_int a b ≡ same_int b a
same_sym (pos a) (pos b) = eqb_sym a b
same_sym (pos a) (negsuc b) = refl
same_sym (negsuc a) (pos b) = refl
same_sym (negsuc a) (negsuc b) = eqb_sym a b

-- ---- a client's row among the rows

-- each row of the clients below n is among them
pub row_among : (test : Finish → Bool) (fs : List Finish) (c n : ℕ) → c < n → how_many test (best c fs) ≤ how_many test (bests_below n fs)
unfolding bests_below
row_among test fs c zero h = absurd (omega arith)
row_among test fs c (suc n) h =
    let j = joined test (bests_below n fs) (best n fs) in
    by_bool (eqb c n)
    (λ e. let q = eqb-true c n e in rw q (omega (arith, j)))
    (λ e. omega (arith, j, row_among test fs c n (less c n h e)))
  where
    less : (c n : ℕ) → c < suc n → eqb c n ≡ false → c < n
    less c n h e = let d = eqb-false c n e in omega arith

-- ---- finishes that pass a test

-- a finish is one of them
finish_among : (test : Finish → Bool) (before : List Finish) (g : Finish) (after : List Finish)
    → cond (test g) 1 0 ≤ how_many test (before ++ g ∷ after)
unfolding how_many
finish_among test before g after = omega (arith, joined test before (g ∷ after))

-- those of a client
abbrev both : (Finish → Bool) → ℕ → Finish → Bool
both test c g = test g && of_client (pos c) g

and-true : (a b : Bool) → b ≡ true → (a && b) ≡ a
and-true true b e = e
and-true false b e = refl

-- a client's row is one of the client's finishes
row_is_finish : (test : Finish → Bool) (c : ℕ) (fs kept : List Finish) → KeptOf c fs kept → how_many test kept ≤ how_many (both test c) fs
unfolding how_many
row_is_finish test c fs [] k = omega arith
row_is_finish test c fs (g ∷ []) k =
    let a = finish_among (both test c) k.at.before g k.at.after in
    let e : same_int g.client (pos c) ≡ true = rw k.client (eq-eqb c c refl) in
    let b = and-true (test g) (same_int g.client (pos c)) e in
    let n : cond (test g) 1 0 ≤ how_many (both test c) (k.at.before ++ g ∷ k.at.after) = rw b at a in
    rw k.at.split (omega (arith, n))
row_is_finish test c fs (g ∷ x ∷ gs) k = absurd k

-- those of clients below n
abbrev below : (Finish → Bool) → ℕ → Finish → Bool
below test n g = test g && is_below n g.client

of_one : (b : Bool) (x y z : Bool) → cond x 1 0 + cond y 1 0 ≤ cond z 1 0 → cond (b && x) 1 0 + cond (b && y) 1 0 ≤ cond (b && z) 1 0
of_one true x y z h = h
of_one false x y z h = omega arith

of_all : (test : Finish → Bool) (n : ℕ) (fs : List Finish) → how_many (below test n) fs + how_many (both test n) fs ≤ how_many (below test (suc n)) fs
unfolding how_many
of_all test n [] = omega arith
of_all test n (f ∷ fs) =
    let a = of_one (test f) (is_below n f.client) (same_int f.client (pos n)) (is_below (suc n) f.client) (next_client n f.client) in
    omega (arith, a, of_all test n fs)

pub rows_are_below : (test : Finish → Bool) (fs : List Finish) (n : ℕ) → how_many test (bests_below n fs) ≤ how_many (below test n) fs
unfolding bests_below how_many
rows_are_below test fs zero = omega arith
rows_are_below test fs (suc n) =
    omega (arith, joined test (bests_below n fs) (best n fs), rows_are_below test fs n, row_is_finish test n fs (best n fs) (kept_best n fs), of_all test n fs)

fewer : (a b : Bool) → cond (a && b) 1 0 ≤ cond a 1 0
fewer true true = omega arith
fewer true false = omega arith
fewer false b = omega arith

pub fewer_of : (test : Finish → Bool) (n : ℕ) (fs : List Finish) → how_many (below test n) fs ≤ how_many test fs
unfolding how_many
fewer_of test n [] = omega arith
fewer_of test n (f ∷ fs) = omega (arith, fewer (test f) (is_below n f.client), fewer_of test n fs)

-- ---- the rows of a client

client_row : (z : ℤ) (c : ℕ) (fs kept : List Finish) → KeptOf c fs kept → how_many (of_client z) kept ≤ cond (same_int z (pos c)) 1 0
unfolding how_many
client_row z c fs [] k = omega arith
client_row z c fs (g ∷ []) k = rw (k.client, same_sym (pos c) z) (omega arith)
client_row z c fs (g ∷ x ∷ gs) k = absurd k

pub client_rows : (z : ℤ) (fs : List Finish) (n : ℕ) → how_many (of_client z) (bests_below n fs) ≤ cond (is_below n z) 1 0
unfolding bests_below how_many
client_rows z fs zero = omega arith
client_rows z fs (suc n) =
    omega (arith, joined (of_client z) (bests_below n fs) (best n fs), client_rows z fs n, client_row z n fs (best n fs) (kept_best n fs), next_client n z)

pub at_most_one : (b : Bool) → cond b 1 0 ≤ 1
at_most_one true = omega arith
at_most_one false = omega arith

-- ---- all rows

pub all_pass : (fs : List Finish) → how_many (λ (g : Finish). true) fs ≡ length fs
unfolding how_many
all_pass [] = refl
all_pass (f ∷ fs) = omega (arith, all_pass fs)

kept_few : (c : ℕ) (fs kept : List Finish) → KeptOf c fs kept → how_many (λ (g : Finish). true) kept ≤ 1
unfolding how_many
kept_few c fs [] k = omega arith
kept_few c fs (g ∷ []) k = omega arith
kept_few c fs (g ∷ x ∷ gs) k = absurd k

pub few_rows : (fs : List Finish) (n : ℕ) → how_many (λ (g : Finish). true) (bests_below n fs) ≤ n
unfolding bests_below how_many
few_rows fs zero = omega arith
few_rows fs (suc n) =
    omega (arith, joined (λ (g : Finish). true) (bests_below n fs) (best n fs), few_rows fs n, kept_few n fs (best n fs) (kept_best n fs))
