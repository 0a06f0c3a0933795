-- `lines::put_word` meets its contract. Assumes nothing.
use Rattle.std.specs.Prelude.{Ok}
use Prim.Native.Nat.{ℕ, ◌+◌}
use mathlib.Core.Path.{◌≡◌, sym, ◌∙◌}
use native.Mathlib.Omega.{arith}
use lib.ListN.{length}
use Rattle.varint.proofs.Writing.{fits_answer}
use Rattle.lines.proofs.put_word.Goals as goal
use Rattle.lines.proofs.put_word.Goals.{In-Ok, In_default}

-- the word fits, so it is written
answer : (c : In_default)
    → let a = c.args in Ok (a.at + length a.word.now) ≡ c.write_raw.result
answer c =
    let s = c in
    fits_answer s.args.out.now s.args.at s.args.word.now s.requires ∙ sym c.write_raw.ensures.answer

pub returns-in_default : goal.returns-in_default
returns-in_default c =
    let q = answer c in
    let z : ◌≡◌ {A = ℕ} 0 1 = cc in
    absurd (omega arith)

-- the word fits, so it is written
answer_2 : (c : In-Ok)
    → let a = c.args in Ok (a.at + length a.word.now) ≡ c.write_raw.result
answer_2 c =
    let s = c in
    fits_answer s.args.out.now s.args.at s.args.word.now s.requires ∙ sym c.write_raw.ensures.answer

pub returns : goal.returns
returns c =
    let w = c in
    let q = answer_2 w in
    (cc, w.write_raw.ensures.target)
