-- Tests of entries by blocks: a block behind the first entries, ten numbers for each entry of a block, a block with no marks. Assumes
-- nothing.
use Prim.Native.Nat.{ℕ, zero, suc, ◌+◌, ◌*◌}
use mathlib.Core.Path.{◌≡◌, refl}
use mathlib.Core.Bool.{Bool, true, false, ◌&&◌}
use mathlib.Core.List.{List}
use native.Mathlib.Omega.{arith}
use lib.ListN.{get_or}
use lib.Dec.{eqb}
use lib.IntN.{ℤ}
use borrow.Author.Tests.{eqb-true}
use Rattle.state.specs.State.{every, good_entry, ten_zeros}
use Rattle.state.specs.steps.Parts.{zero_at, good_input}
use Rattle.state.proofs.Every.{left_of_law, right_of, every_same}
use Rattle.good.specs.steps.Blocks.{from, no_mark}

and_assoc : (a b c : Bool) → ((a && b) && c) ≡ (a && (b && c))
and_assoc true b c = refl
and_assoc false b c = refl

-- the first m, then a block of n
pub every_more : (p : ℕ → Bool) (m n : ℕ) → every (m + n) p ≡ (every n (from m p) && every m p)
unfolding every
every_more p m zero = let e : m + 0 ≡ m = omega arith in rw e
every_more p m (suc n) =
    let e : m + suc n ≡ suc (m + n) = omega arith in
    rw (e, every_more p m n, and_assoc (p (m + n)) (every n (from m p)) (every m p))

-- ten numbers for each entry
pub tens : (l : List ℤ) (c n : ℕ) → every (10 * n) (zero_at l c) ≡ every n (from c (ten_zeros l))
unfolding every ten_zeros
tens l c zero = refl
tens l c (suc n) =
    let e : 10 * suc n ≡ 10 * n + 10 = omega arith in
    let ten : every 10 (from (10 * n) (zero_at l c)) ≡ every 10 (zero_at l (c + n)) =
    every_same 10 {p = from (10 * n) (zero_at l c)} {q = zero_at l (c + n)} (λ k h. let i : 10 * c + (10 * n + k) ≡ 10 * (c + n) + k = omega arith in rw i)
    in
    rw (e, every_more (zero_at l c) (10 * n) 10, ten, tens l c n)

-- an entry with no mark is good if it is blank
blank_good : (mark : ℕ) (t : Bool) → eqb mark 0 ≡ true → t ≡ good_entry mark t
blank_good mark t e = rw (eqb-true mark 0 e)

pub no_marks : (held : List ℕ) (l : List ℤ) (c n : ℕ) → every n (from c (no_mark held)) ≡ true
    → every n (from c (ten_zeros l)) ≡ every n (from c (good_input held l))
unfolding every
no_marks held l c zero h = refl
no_marks held l c (suc n) h =
    let m = no_mark held (c + n) in
    let ms = every n (from c (no_mark held)) in
    let here = blank_good (get_or held (c + n) 0) (ten_zeros l (c + n)) (left_of_law m ms h) in
    rw (no_marks held l c n (right_of m ms h), ← here)

-- one block of sixteen more
pub one_block : (p : ℕ → Bool) (b : ℕ) (t g r : Bool) → t ≡ every 16 (from (16 * b) p) → g ≡ every (16 * b) p → r ≡ (t && g)
    → r ≡ every (16 * (b + 1)) p
one_block p b t g r et eg er =
    let e : 16 * (b + 1) ≡ 16 * b + 16 = omega arith in
    rw (e, every_more p (16 * b) 16, ← et, ← eg) er
