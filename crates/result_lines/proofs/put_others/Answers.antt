-- `result_lines::put_others` meets its contract. Assumes nothing.
use native.Mathlib.Omega.{arith}
use Rattle.packer.proofs.Joined.{two_puts}
use Rattle.lines.specs.Lines.{decimal_digits, newline, text}
use Rattle.lines.specs.steps.Puts.{PutsText}
use Rattle.result_lines.proofs.Number.{number_le}
use Rattle.row_lines.proofs.Puts.{raw_put, put_size}
use Rattle.result_lines.proofs.put_others.Goals as goal
use Rattle.result_lines.proofs.put_others.Goals.{After-put_number-arg-1, After-slice_known-3-1}

-- the word is put
word : (c : After-put_number-arg-1) → let w = c in let a = w.args in
    PutsText a.out.now a.at (text "others ") c.past_or-next.result w.write_raw.new.out
word c =
    let w = c in
    let s = w in
    raw_put s.args.out.now s.args.at (text "others ") _ _ c.past_or-next.ensures _ (omega arith) w.write_raw.ensures.answer
    w.write_raw.ensures.target

pub put_number-requires : goal.put_number-requires
put_number-requires c =
    let p = word c in
    let s = c in
    omega (arith, p.0, put_size s.args.out.now s.args.at (text "others ") _ _ (omega (arith, s.requires)) p)

-- the word is put
word_2 : (c : After-slice_known-3-1) → let w = c in let a = w.args in
    PutsText a.out.now a.at (text "others ") c.past_or-next.result w.write_raw.new.out
word_2 c =
    let w = c in
    let s = w in
    raw_put s.args.out.now s.args.at (text "others ") _ _ c.past_or-next.ensures _ (omega arith) w.write_raw.ensures.answer
    w.write_raw.ensures.target

pub returns : goal.returns
returns c =
    let p = c in
    let w = p in
    let s = w in
    let n = s.args.n in
    two_puts s.args.out.now s.args.at (text "others ") (decimal_digits 20 n newline) (omega (arith, s.requires, number_le n)) _ _ (word_2 w) _ _
    p.put_number.ensures
