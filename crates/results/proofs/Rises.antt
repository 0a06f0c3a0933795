-- A list has one row for each client, in the order of clients. Assumes nothing.
use Prim.Native.Nat.{ℕ, zero, suc}
use mathlib.Core.Path.{◌≡◌, refl}
use mathlib.Core.Bool.{true}
use mathlib.Core.List.{List, [], ◌∷◌, ◌++◌, append-nil}
use native.Mathlib.Omega.{arith}
use lib.Dec.{eqb}
use lib.ListN.{get_or}
use lib.IntN.{ℤ, pos, negsuc}
use lib.Signed.{lt_z}
use borrow.Author.Tests.{lt-ltb, ltb-true}
use Rattle.num.proofs.Cases.{by_bool}
use Rattle.results.specs.Results.{Finish, row_of, rows_below}
use Rattle.results.specs.Laws.{Each, RowOfClient, ClientsRise, OneRowEach}
use Rattle.results.specs.declared.Results.{Results}
use Rattle.results.proofs.Each.{all_map, all_append}

pub row_of_client : RowOfClient
row_of_client l c =
    by_bool (eqb (get_or l.marks c 0) 1)
    (λ t. rw t (omega arith, (refl, tt)))
    (λ t. rw t (omega arith, tt))

-- ---- the clients rise

abbrev Below : ℤ → Finish → Type 0
Below z f = lt_z f.client z ≡ true

below_next : (z : ℤ) (n : ℕ) → lt_z z (pos n) ≡ true → lt_z z (pos (suc n)) ≡ true
below_next (pos c) n e = let h = ltb-true c n e in lt-ltb c (suc n) (omega arith)
below_next (negsuc c) n e = refl

all_below : (l : Results) (n : ℕ) → Each (Below (pos n)) (rows_below n l)
unfolding rows_below
all_below l zero = tt
all_below l (suc n) =
    all_append (Below (pos (suc n))) (rows_below n l) (row_of l n)
    (all_map (Below (pos n)) (Below (pos (suc n))) (λ f e. below_next f.client n e) (rows_below n l) (all_below l n))
    (all_map (λ f. f.client ≡ pos n) (Below (pos (suc n))) (λ f e. rw e (lt-ltb n (suc n) (omega arith))) (row_of l n) (row_of_client l n).1)

one_more : (fs : List Finish) (g : Finish) → ClientsRise fs → Each (Below g.client) fs → ClientsRise (fs ++ g ∷ [])
one_more [] g r b = (tt, tt)
one_more (f ∷ fs) g r b =
    (all_append (λ x. lt_z f.client x.client ≡ true) fs (g ∷ []) r.0 (b.0, tt), one_more fs g r.1 b.1)

rises : (l : Results) (n : ℕ) → ClientsRise (rows_below n l)
unfolding rows_below
rises l zero = tt
rises l (suc n) =
    by_bool (eqb (get_or l.marks n 0) 1)
    (λ t. rw t (one_more (rows_below n l) _ (rises l n) (all_below l n)))
    (λ t. rw (t, append-nil (rows_below n l)) (rises l n))

pub one_row_each : OneRowEach
one_row_each l = rises l 128
