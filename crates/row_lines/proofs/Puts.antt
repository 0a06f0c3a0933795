-- Where there is room, what the writers' answers tell. Assumes nothing.
use Rattle.std.specs.Prelude.{Result}
use Prim.Native.Nat.{ℕ, ◌+◌, ◌≤◌}
use mathlib.Core.Path.{◌≡◌, sym, ◌∙◌, ap}
use mathlib.Core.List.{List}
use lib.ListN.{length}
use Rattle.refusal.specs.declared.Refusal.{Refusal}
use Rattle.varint.specs.Written.{written}
use Rattle.varint.specs.steps.Writing.{wrote}
use Rattle.varint.proofs.Writing.{fits_answer}
use Rattle.packer.proofs.Joined.{written_length}
use Rattle.lines.specs.Lines.{text_answer, text_target}
use Rattle.lines.specs.steps.Puts.{PutsText}
use Rattle.row_lines.specs.steps.RowLines.{past_or}
use Rattle.row_lines.proofs.FromRows.{puts_of}

module _ (xs : List ℕ) (at : ℕ) (bs : List ℕ) (w : Result ℕ Refusal) (next : ℕ) (past : next ≡ past_or w at) (ys : List ℕ) where
  -- bytes
  pub raw_put : at + length bs ≤ length xs → w ≡ wrote xs at bs → ys ≡ written xs at bs → PutsText xs at bs next ys
  raw_put h e t = (past ∙ ap (λ (v : Result ℕ Refusal). past_or v at) (e ∙ sym (fits_answer xs at bs h)), t)

  -- a text that asks for so much room
  pub text_put : (most : ℕ) → at + most ≤ length xs → w ≡ text_answer most xs at bs → ys ≡ text_target most xs at bs
      → PutsText xs at bs next ys
  text_put most h e t = puts_of most xs at bs next ys h (past ∙ ap (λ (v : Result ℕ Refusal). past_or v at) e, t)

-- the target keeps its length
pub put_size : (xs : List ℕ) (at : ℕ) (bs : List ℕ) (next : ℕ) (ys : List ℕ) → at + length bs ≤ length xs → PutsText xs at bs next ys
    → length ys ≡ length xs
put_size xs at bs next ys h p = ap length p.1 ∙ written_length xs at bs h
