use Rattle.std.specs.Prelude.{Ok}
use Rattle.std.proofs.Common.{◌≡◌, [], ◌/◌, ◌+◌, ◌-◌, ◌≤◌, length, arith, refl, sym, ap, ◌∙◌, w32, add-one}
use Rattle.std.proofs.lemmas.List.{nil_from_length}
use lib.ListN.{length-set}
use lib.Signed.{mag}
use mir.Facts.{to_z-of_z}
use Rattle.varint.specs.Written.{first_byte, later_byte, later_bytes, canonical}
use Rattle.varint.proofs.Writing.{left, later_one, later_none, put_one, fits_written, fits_answer, short}
use Rattle.int_writer.proofs.write_int.Goals as goal

pub returns-then-saturating_sub-count : goal.returns-then-saturating_sub-count
returns-then-saturating_sub-count c =
    let a = c.args in
    let n : c.int_size-count.result ≡ length (canonical a.value) =
    c.int_size-count.ensures ∙ rw (to_z-of_z {w = w32} {z = a.value} c.ranges.value) in
    let said = short a.out.now a.at (canonical a.value) (omega arith) in
    record { answer = said.0; target = said.1 }

pub bounds-out-at : goal.bounds-out-at
unfolding canonical
bounds-out-at c = omega arith

pub overflow_step-i : goal.overflow_step-i
unfolding canonical
overflow_step-i c = omega arith

pub loop-i-init : goal.loop-i-init
unfolding canonical
loop-i-init c =
    let a = c.args in
    let e : a.at + 5 - (a.at + 1) ≡ 4 = omega arith in
    let m = ap (λ n. length (later_bytes 4 (n / 64))) c.magnitude-rest.ensures in
    rw e (record { same_length = refl; below = omega arith; left = omega arith; bytes = refl })

pub loop-i-preserved : goal.loop-i-preserved
loop-i-preserved c =
    let l = c.loop-i in
    let a = c.args in
    let n = a.at + 5 - l.i in
    let nz : l.rest ≡ 0 → ⊥ = λ z. let q : later_bytes n l.rest ≡ [] = rw z (later_none n) in omega (arith, ap length q) in
    let st = left l.rest nz n l.invariant.below in
    let e : a.at + 5 - (l.i + 1) ≡ n - 1 = omega arith in
    let q = ap length (later_one l.rest nz n l.invariant.below) in
    rw (e, c.later_byte.ensures) (record {
      same_length = length-set l.out l.i (later_byte l.rest) ∙ l.invariant.same_length;
      below = st.1;
      left = omega arith;
      bytes = sym (put_one l.rest nz l.out l.i n l.invariant.below) ∙ l.invariant.bytes;
    })

pub returns : goal.returns
unfolding canonical
returns c =
    let l = c.loop-i in
    let a = c.args in
    let v = to_z-of_z {w = w32} {z = a.value} c.ranges.value in
    let n : c.int_size-count.result ≡ length (canonical a.value) = c.int_size-count.ensures ∙ rw v in
    let h : a.at + length (canonical a.value) ≤ length a.out.now = omega arith in
    let z = nil_from_length (later_bytes (a.at + 5 - l.i) l.rest) (omega arith) in
    record {
      answer = ap (λ k. Ok (a.at + k)) n ∙ fits_answer a.out.now a.at (canonical a.value) h;
      target = (rw z at l.invariant.bytes)
          ∙ rw (c.first_byte.ensures ∙ ap first_byte v, c.magnitude-rest.ensures ∙ ap mag v, add-one)
          (fits_written a.out.now a.at (canonical a.value) h);
    }
