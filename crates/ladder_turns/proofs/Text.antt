-- The list of a body, written, is a text of the body. Assumes nothing.
use Prim.Native.Nat.{ℕ, ◌+◌, ◌≤◌}
use mathlib.Core.Path.{◌≡◌, refl, ap, subst, ◌∙◌}
use mathlib.Core.List.{List, ◌++◌}
use borrow.Author.Tests.{le-leb}
use lib.ListN.{length, take, drop}
use Rattle.varint.specs.Written.{written}
use Rattle.lines.specs.Lines.{text_answer, text_target}
use Rattle.results.specs.Results.{Finish, others_in}
use Rattle.results.proofs.Theorems.{all_rows_are_bests, count_is_others}
use Rattle.ranking.specs.Ranking.{InOrder}
use Rattle.result_lines.specs.ResultLines.{list_text, longest_list}
use Rattle.result_lines.proofs.Order.{few}
use Rattle.result_lines.proofs.Text.{whole}
use Rattle.ladder_turns.specs.Ladder.{ladder_finishes, ladder_list, ListText}

-- a text that fits is in its place
in_place : (xs : List ℕ) (at : ℕ) (text : List ℕ) → at + length text ≤ length xs
    → written xs at text ≡ take at xs ++ text ++ drop (at + length text) xs
unfolding written
in_place xs at text h = rw (le-leb (at + length text) (length xs) h)

pub list_text_law : ListText
list_text_law v body ending out₀ at r out₁ last room w =
    let fs = ladder_finishes v body in
    let text = list_text w.ordered (others_in fs) ending in
    let same : list_text w.ordered (ladder_list v body).others ending ≡ text =
    ap (λ (n : ℕ). list_text w.ordered n ending) (count_is_others fs) in
    let t = le-leb (at + longest_list) (length out₀) room in
    let fits = whole w.ordered (few (ladder_list v body) w.ordered w.order) (others_in fs) ending out₀ at room in
    record {
      text = text;
      is = record {
        ordered = w.ordered;
        order = subst (λ (rows : List Finish). InOrder rows w.ordered) (all_rows_are_bests fs) w.order;
        ending = ending;
        last = last;
        same = refl;
      };
      answer = w.answer ∙ ap (text_answer longest_list out₀ at) same ∙ rw t;
      target = w.target ∙ ap (text_target longest_list out₀ at) same ∙ rw t (in_place out₀ at text fits);
    }
