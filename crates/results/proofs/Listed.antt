-- Every finish is counted or has a row of its client, and every row is a finish. Assumes nothing.
use Prim.Native.Nat.{ℕ, zero, suc, ◌+◌, ◌≤◌, ◌<◌}
use mathlib.Core.Path.{◌≡◌, refl, ap, ◌∙◌}
use mathlib.Core.Logic.{inl, inr}
use mathlib.Core.Bool.{true, false}
use mathlib.Core.List.{List, [], ◌∷◌, ◌++◌}
use native.Mathlib.Omega.{arith}
use lib.IntN.{ℤ, pos, negsuc}
use borrow.Author.Tests.{lt-ltb, ltb-true}
use Rattle.num.proofs.Cases.{by_bool}
use Rattle.results.specs.Results.{Finish, best, bests_below, is_listed, others_in}
use Rattle.results.specs.Laws.{Each, Among, HasRow, EveryFinishListed, RowsAreFinishes}
use Rattle.results.proofs.Each.{all_append, all_at}
use Rattle.results.proofs.Bests.{Other, NoLower, none_lower, KeptOf, kept_best}

-- ---- a finish of a client that is not listed

counts : (fs : List Finish) (f : Finish) (gs : List Finish) → is_listed f.client ≡ false
    → others_in (fs ++ f ∷ gs) ≡ 1 + others_in (fs ++ gs)
unfolding others_in
counts [] f gs e = rw e
counts (x ∷ fs) f gs e = let h = counts fs f gs e in omega arith

-- ---- a finish of one that is

module _ (f : Finish) (fs : List Finish) (at : Among f fs) (c : ℕ) (e : f.client ≡ pos c) (h : c < 128) where
  among : (P : Finish → Type 0) → Each P fs → P f
  among P a = all_at P at.before f at.after (rw at.split at a)

  has_row : (kept : List Finish) → best c fs ≡ kept → KeptOf c fs kept → HasRow f fs
  has_row [] q k = absurd (among (Other c) k e)
  has_row (g ∷ []) q k =
      record {
        number = c;
        client = e;
        listed = h;
        row = g;
        has = q;
        no_higher_law = among (NoLower c g) (none_lower c fs g k) e;
      }
  has_row (g ∷ x ∷ gs) q k = absurd k

by_client_law : (f : Finish) (fs : List Finish) → Among f fs → (z : ℤ) → f.client ≡ z → is_listed z ≡ true → HasRow f fs
by_client_law f fs at (pos c) e t = has_row f fs at c e (ltb-true c 128 t) (best c fs) refl (kept_best c fs)
by_client_law f fs at (negsuc c) e t = let z : ◌≡◌ {A = ℕ} 0 1 = cc in absurd (omega arith)

pub every_finish_listed : EveryFinishListed
every_finish_listed f fs at =
    by_bool (is_listed f.client)
    (λ t. inr (by_client_law f fs at f.client refl t))
    (λ t. inl (record { other = t; counts = ap others_in at.split ∙ counts at.before f at.after t }))

-- ---- rows

abbrev IsRow : List Finish → Finish → Type 0
IsRow fs g = Among g fs × (is_listed g.client ≡ true)

row_of : (fs : List Finish) (c : ℕ) (kept : List Finish) → c < 128 → KeptOf c fs kept → Each (IsRow fs) kept
row_of fs c [] h k = tt
row_of fs c (g ∷ []) h k = ((k.at, rw k.client (lt-ltb c 128 h)), tt)
row_of fs c (g ∷ x ∷ gs) h k = absurd k

rows_below_law : (fs : List Finish) (n : ℕ) → n ≤ 128 → Each (IsRow fs) (bests_below n fs)
unfolding bests_below
rows_below_law fs zero h = tt
rows_below_law fs (suc n) h =
    all_append (IsRow fs) (bests_below n fs) (best n fs) (rows_below_law fs n (omega arith)) (row_of fs n (best n fs) h (kept_best n fs))

pub rows_are_finishes : RowsAreFinishes
rows_are_finishes fs = rows_below_law fs 128 (omega arith)
