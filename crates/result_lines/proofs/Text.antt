-- The whole text of a list: how long it is, and from which parts it is put. Assumes nothing.
use Prim.Native.Nat.{ℕ, ◌+◌, ◌≤◌}
use mathlib.Core.List.{List, [], ◌∷◌, ◌++◌}
use native.Mathlib.Omega.{arith}
use lib.ListN.{length, length-append}
use lib.IntN.{pos}
use Rattle.refusal.specs.Numbers.{number_of}
use Rattle.packer.proofs.Joined.{first_fits, next_fits, two_puts}
use Rattle.results.specs.Results.{Finish}
use Rattle.lines.specs.Lines.{longest, last_line}
use Rattle.lines.specs.declared.Ending.{Ending}
use Rattle.lines.specs.declared.Ending.TheVariants.{Finish as Finished, Refused, TooLong}
use Rattle.lines.specs.steps.Puts.{PutsText}
use Rattle.lines.proofs.Texts.{end_le}
use Rattle.result_lines.specs.ResultLines.{row_lines, others_line, list_text, longest_list}
use Rattle.result_lines.proofs.Number.{number_le}
use Rattle.row_lines.proofs.Puts.{put_size}
use Rattle.result_lines.proofs.Rows.{rows_le}

last_le : (e : Ending) → length (last_line e) ≤ longest
last_le Finished = omega arith
last_le (Refused r) = omega (arith, end_le (pos (number_of r) ∷ []))
last_le TooLong = omega arith

module _ (fs : List Finish) (few : length fs ≤ 128) (n : ℕ) (e : Ending) (xs : List ℕ) (at : ℕ) (room : at + longest_list ≤ length xs) where
  pub whole : at + length (list_text fs n e) ≤ length xs
  whole =
      omega
      (arith, length-append (row_lines fs) (others_line n ++ last_line e), length-append (others_line n) (last_line e), rows_le fs, number_le n, last_le e)

  module _ (a : ℕ) (ys : List ℕ) (p : PutsText xs at (row_lines fs) a ys) where
    behind : a + length (others_line n ++ last_line e) ≤ length ys
    behind = next_fits xs at (row_lines fs) (others_line n ++ last_line e) whole a ys p

    -- there is room for the line of the others, and then for the last
    pub others_fit : a + 28 ≤ length ys
    others_fit =
        omega (arith, p.0, rows_le fs, put_size xs at (row_lines fs) a ys (first_fits xs at (row_lines fs) (others_line n ++ last_line e) whole) p)

    module _ (b : ℕ) (zs : List ℕ) (q : PutsText ys a (others_line n) b zs) where
      pub last_fits : b + longest ≤ length zs
      last_fits =
          omega
          (arith, p.0, q.0, rows_le fs, number_le n, put_size xs at (row_lines fs) a ys (first_fits xs at (row_lines fs) (others_line n ++ last_line e) whole) p, put_size ys a (others_line n) b zs (first_fits ys a (others_line n) (last_line e) behind) q)

      pub all_put : (c : ℕ) (us : List ℕ) → PutsText zs b (last_line e) c us → PutsText xs at (list_text fs n e) c us
      all_put c us r =
          two_puts xs at (row_lines fs) (others_line n ++ last_line e) whole a ys p c us (two_puts ys a (others_line n) (last_line e) behind b zs q c us r)
