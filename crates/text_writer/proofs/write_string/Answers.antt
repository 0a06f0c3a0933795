use Rattle.std.proofs.Common.{◌+◌, ◌≤◌, [], ◌∷◌, length, length-append, sym, ◌∙◌, refl, arith}
use Rattle.varint.proofs.Writing.{short, fits_written}
use Rattle.packer.specs.Texts.{string_bytes}
use Rattle.packer.proofs.Joined.{put_answer, next_fits, two_puts}
use Rattle.text_writer.proofs.write_string.Goals as goal

pub returns-then-saturating_sub-b : goal.returns-then-saturating_sub-b
returns-then-saturating_sub-b c =
    let a = c.args in
    let clean = sym c.no_zero.ensures ∙ c.if-not-no_zero.false in
    let said = short a.out.now a.at (string_bytes a.b.now) (omega (arith, length-append a.b.now (0 ∷ []))) in
    record { answer = rw clean said.0; target = rw clean said.1 }

pub returns : goal.returns
returns c =
    let a = c.args in
    let b = a.b.now in
    let p = c.put-end.ensures in
    let clean = sym c.no_zero.ensures ∙ c.if-not-no_zero.false in
    let h : a.at + length (string_bytes b) ≤ length a.out.now = omega (arith, length-append b (0 ∷ [])) in
    let n = next_fits a.out.now a.at b (0 ∷ []) h _ _ p in
    let said = put_answer a.out.now a.at (string_bytes b) h _ _
    (two_puts a.out.now a.at b (0 ∷ []) h _ _ p _ _ (refl, fits_written _ _ (0 ∷ []) n)) in
    record { answer = rw clean said.0; target = rw clean said.1 }
