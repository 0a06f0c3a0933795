-- The lines of rows, put one behind the other: what is still to come. Assumes nothing.
use Prim.Native.Nat.{ℕ, zero, suc, ◌+◌, ◌*◌, ◌-◌, ◌≤◌, ◌<◌}
use mathlib.Core.Path.{◌≡◌, refl, ◌∙◌, ap}
use mathlib.Core.List.{List, [], ◌∷◌, ◌++◌}
use native.Mathlib.Omega.{arith}
use native.Mathlib.Nat.{add-zero}
use lib.ListN.{length, length-append, drop, get_or}
use lib.Seq.{get_or-drop, drop-drop}
use lib.IntN.{ℤ, pos}
use Rattle.varint.specs.Written.{written}
use Rattle.packer.proofs.Joined.{joined, written_length, nothing_put}
use Rattle.results.specs.Results.{Finish, finish}
use Rattle.lines.specs.steps.Puts.{PutsText}
use Rattle.lines.proofs.Texts.{end_le}
use Rattle.result_lines.specs.ResultLines.{row_line, row_lines}
use Rattle.result_lines.specs.steps.Rows.{rows_in}

row_le : (f : Finish) → length (row_line f) ≤ 40
row_le f = omega (arith, end_le (f.client ∷ f.time ∷ f.tick ∷ []))

pub rows_le : (fs : List Finish) → length (row_lines fs) ≤ 40 * length fs
unfolding row_lines
rows_le [] = omega arith
rows_le (f ∷ fs) = omega (arith, length-append (row_line f) (row_lines fs), row_le f, rows_le fs)

pub rows_count : (n : ℕ) (clients times ticks : List ℤ) → length (rows_in n clients times ticks) ≡ n
unfolding rows_in
rows_count zero clients times ticks = refl
rows_count (suc n) clients times ticks = ap suc (rows_count n (drop 1 clients) (drop 1 times) (drop 1 ticks))

first_at : (l : List ℤ) (i : ℕ) → get_or (drop i l) 0 (pos 0) ≡ get_or l i (pos 0)
first_at l i = get_or-drop i l 0 (pos 0) ∙ ap (λ (n : ℕ). get_or l n (pos 0)) (add-zero i)

module _ (clients times ticks : List ℤ) where
  -- the row at a place, and so many rows from it on
  abbrev pub row_at : ℕ → Finish
  row_at i = finish (get_or clients i (pos 0)) (get_or times i (pos 0)) (get_or ticks i (pos 0))

  abbrev pub rows_from : ℕ → ℕ → List Finish
  rows_from n i = rows_in n (drop i clients) (drop i times) (drop i ticks)

  rows_at : (n i : ℕ) → rows_from (suc n) i ≡ row_at i ∷ rows_from n (i + 1)
  unfolding rows_in
  rows_at n i =
      rw (first_at clients i, first_at times i, first_at ticks i, drop-drop 1 i clients, drop-drop 1 i times, drop-drop 1 i ticks)

  -- at row i, with the target as it is and the place in it: what the rows that are left make of the target is what all make of it
  pub record Left (count : ℕ) (out₀ : List ℕ) (at i next : ℕ) (out : List ℕ) : Type 0 where
    pub most : i ≤ count
    pub same : length out ≡ length out₀
    pub near : next ≤ at + 40 * i
    pub place : next + length (row_lines (rows_from (count - i) i)) ≡ at + length (row_lines (rows_in count clients times ticks))
    pub bytes : written out next (row_lines (rows_from (count - i) i)) ≡ written out₀ at (row_lines (rows_in count clients times ticks))

  module _ (count : ℕ) (out₀ : List ℕ) (at : ℕ) where
    pub begins : Left count out₀ at 0 at out₀
    begins =
        let e : count - 0 ≡ count = omega arith in
        record { most = omega arith; same = refl; near = omega arith; place = rw e; bytes = rw e }

    module _ (i next : ℕ) (out : List ℕ) (l : Left count out₀ at i next out) (fits : at + 40 * count ≤ length out₀) where
      pub onward : i < count → (m : ℕ) (ys : List ℕ) → PutsText out next (row_line (row_at i)) m ys → Left count out₀ at (i + 1) m ys
      unfolding row_lines
      onward h m ys p =
          let n = count - (i + 1) in
          let rest = rows_from n (i + 1) in
          let e : count - i ≡ suc n = omega arith in
          let s : row_lines (rows_from (count - i) i) ≡ row_line (row_at i) ++ row_lines rest = rw (e, rows_at n i) in
          let k = length-append (row_line (row_at i)) (row_lines rest) in
          let j : next + length (row_line (row_at i) ++ row_lines rest) ≤ length out =
          omega (arith, l.same, l.near, row_le (row_at i), rows_le rest, rows_count n (drop (i + 1) clients) (drop (i + 1) times) (drop (i + 1) ticks)) in
          record {
            most = omega arith;
            same = ap length p.1 ∙ written_length out next (row_line (row_at i)) (omega arith) ∙ l.same;
            near = omega (arith, p.0, l.near, row_le (row_at i));
            place = omega (arith, p.0, rw s at l.place);
            bytes = rw (p.0, p.1) (joined out next (row_line (row_at i)) (row_lines rest) j) ∙ rw s at l.bytes;
          }

      pub done : count ≤ i → PutsText out₀ at (row_lines (rows_in count clients times ticks)) next out
      unfolding row_lines rows_in
      done h =
          let e : count - i ≡ 0 = omega arith in
          let q : next + 0 ≡ at + length (row_lines (rows_in count clients times ticks)) = rw e at l.place in
          (omega arith, nothing_put out next (omega (arith, l.same, l.near, l.most)) ∙ rw e at l.bytes)
