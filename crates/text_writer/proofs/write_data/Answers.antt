use Rattle.std.specs.Prelude.{Ok}
use Rattle.std.proofs.Common.{◌≡◌, ℕ, ◌+◌, ◌≤◌, ◌<◌, ℤ, List, length, length-append, sym, ◌∙◌, ap, arith, w32, pos, to_z}
use borrow.Author.Tests.{le-leb}
use mir.Facts.{to_z_pos}
use Rattle.varint.specs.Written.{canonical}
use Rattle.varint.proofs.Writing.{canonical_le, fits_answer, short}
use Rattle.packer.specs.Texts.{data_bytes}
use Rattle.packer.proofs.Joined.{Put, put_answer, first_fits, next_fits, two_puts}
use Rattle.packer.proofs.Texts.{lead}
use Rattle.text_writer.proofs.write_data.Goals as goal

-- the length is read back from its bits
read : (b : List ℕ) → length b ≤ 2147483647 → to_z w32 (length b) ≡ pos (length b)
read b h = to_z_pos w32 {n = length b} (omega arith)

some : (z : ℤ) → 0 < length (canonical z)
unfolding canonical
some z = omega arith

pub overflow_add-size : goal.overflow_add-size
overflow_add-size c = omega (arith, canonical_le (to_z w32 (length c.args.b.now)))

pub returns-then-saturating_sub-size : goal.returns-then-saturating_sub-size
returns-then-saturating_sub-size c =
    let a = c.args in
    let b = a.b.now in
    let n = ap (λ z. length (canonical z)) (read b c.if-b-gt2147483647.false) in
    let small = le-leb (length b) 2147483647 c.if-b-gt2147483647.false in
    let said = short a.out.now a.at (data_bytes b) (omega (arith, length-append (lead b) b)) in
    record { answer = rw small said.0; target = rw small said.1 }

pub returns-in_default : goal.returns-in_default
returns-in_default c =
    let a = c.args in
    let b = a.b.now in
    let r = read b c.if-b-gt2147483647.false in
    let n = ap (λ z. length (canonical z)) r in
    let h : a.at + length (data_bytes b) ≤ length a.out.now = omega (arith, some (pos (length b)), length-append (lead b) b) in
    let q : Ok (a.at + length (lead b)) ≡ c.write_int.result =
    fits_answer a.out.now a.at (lead b) (first_fits a.out.now a.at (lead b) b h) ∙ sym (rw r at c.write_int.ensures.answer) in
    let z : ◌≡◌ {A = ℕ} 0 1 = cc in
    absurd (omega arith)

pub put-requires : goal.put-requires
put-requires c =
    let a = c.args in
    let b = a.b.now in
    let r = read b c.if-b-gt2147483647.false in
    let n = ap (λ z. length (canonical z)) r in
    let h : a.at + length (data_bytes b) ≤ length a.out.now = omega (arith, some (pos (length b)), length-append (lead b) b) in
    let q : Ok (a.at + length (lead b)) ≡ c.write_int.result =
    fits_answer a.out.now a.at (lead b) (first_fits a.out.now a.at (lead b) b h) ∙ sym (rw r at c.write_int.ensures.answer) in
    let p : Put a.out.now a.at (lead b) c.in-Ok.next c.write_int.new.out = (cc, rw r at c.write_int.ensures.target) in
    next_fits a.out.now a.at (lead b) b h _ _ p

pub returns : goal.returns
returns c =
    let a = c.args in
    let b = a.b.now in
    let r = read b c.if-b-gt2147483647.false in
    let n = ap (λ z. length (canonical z)) r in
    let small = le-leb (length b) 2147483647 c.if-b-gt2147483647.false in
    let h : a.at + length (data_bytes b) ≤ length a.out.now = omega (arith, some (pos (length b)), length-append (lead b) b) in
    let q : Ok (a.at + length (lead b)) ≡ c.write_int.result =
    fits_answer a.out.now a.at (lead b) (first_fits a.out.now a.at (lead b) b h) ∙ sym (rw r at c.write_int.ensures.answer) in
    let p : Put a.out.now a.at (lead b) c.in-Ok.next c.write_int.new.out = (cc, rw r at c.write_int.ensures.target) in
    let said = put_answer a.out.now a.at (data_bytes b) h _ _ (two_puts a.out.now a.at (lead b) b h _ _ p _ _ c.put.ensures) in
    record { answer = rw small said.0; target = rw small said.1 }
