-- The rows that arrays hold are those of a list in order, and at most 128. Assumes nothing.
use Prim.Native.Nat.{ℕ, zero, suc, ◌≤◌}
use mathlib.Core.Path.{◌≡◌, refl, ap}
use mathlib.Core.Bool.{Bool, true, false, cond}
use mathlib.Core.List.{List, [], ◌∷◌, map}
use native.Mathlib.Omega.{arith}
use lib.Dec.{eqb}
use lib.ListN.{length, length-append, get_or}
use lib.IntN.{ℤ, pos}
use Rattle.results.specs.Results.{Finish, finish, row_of, rows_below}
use Rattle.results.specs.declared.Results.{Results}
use Rattle.ranking.specs.Ranking.{how_many, InOrder, in_front, Ranks}
use Rattle.result_lines.specs.steps.Rows.{rows_in}

-- all rows pass the test that is always true
all_pass : (fs : List Finish) → how_many (λ (f : Finish). true) fs ≡ length fs
unfolding how_many
all_pass [] = refl
all_pass (f ∷ fs) = omega (arith, all_pass fs)

one_row : (t : Bool) (f : Finish) → length (cond t (f ∷ []) []) ≤ 1
one_row true f = omega arith
one_row false f = omega arith

row_le : (l : Results) (c : ℕ) → length (row_of l c) ≤ 1
row_le l c =
    one_row (eqb (get_or l.marks c 0) 1) (finish (pos c) (get_or l.times c (pos 0)) (get_or l.ticks c (pos 0)))

below_le : (n : ℕ) (l : Results) → length (rows_below n l) ≤ n
unfolding rows_below
below_le zero l = omega arith
below_le (suc n) l = omega (arith, length-append (rows_below n l) (row_of l n), row_le l n, below_le n l)

pub few : (l : Results) (ordered : List Finish) → InOrder (rows_below 128 l) ordered → length ordered ≤ 128
few l ordered o =
    let e = o.same (λ (f : Finish). true) in
    omega (arith, e, all_pass ordered, all_pass (rows_below 128 l), below_le 128 l)

-- rows in the front of three memories are found there
pub in_front_law : (fs : List Finish) (clients times ticks : List ℤ) → length fs ≤ length clients → length fs ≤ length times → length fs ≤ length ticks
    → rows_in (length fs) (in_front (map (λ (f : Finish). f.client) fs) clients) (in_front (map (λ (f : Finish). f.time) fs) times) (in_front (map (λ (f : Finish). f.tick) fs) ticks)
    ≡ fs
unfolding rows_in in_front
in_front_law [] clients times ticks a b c = refl
in_front_law (f ∷ fs) [] times ticks a b c = absurd (omega arith)
in_front_law (f ∷ fs) (x ∷ clients) [] ticks a b c = absurd (omega arith)
in_front_law (f ∷ fs) (x ∷ clients) (y ∷ times) [] a b c = absurd (omega arith)
in_front_law (f ∷ fs) (x ∷ clients) (y ∷ times) (z ∷ ticks) a b c =
    ap (λ (gs : List Finish). f ∷ gs) (in_front_law fs clients times ticks (omega arith) (omega arith) (omega arith))

-- what `rank` leaves in three arrays
module _ (l : Results) (n : ℕ) (clients₀ times₀ ticks₀ clients₁ times₁ ticks₁ : List ℤ) (r : Ranks (rows_below 128 l) n clients₀ times₀ ticks₀ clients₁ times₁ ticks₁) where
  pub ranked_few : n ≤ 128
  ranked_few = omega (arith, r.number, few l r.ordered r.order)

  pub ranked : length clients₀ ≡ 128 → length times₀ ≡ 128 → length ticks₀ ≡ 128 → rows_in n clients₁ times₁ ticks₁ ≡ r.ordered
  ranked a b c =
      let h = few l r.ordered r.order in
      rw (r.number, r.clients, r.times, r.ticks) (in_front_law r.ordered clients₀ times₀ ticks₀ (omega arith) (omega arith) (omega arith))
