-- Both round trips, over what the calls promise. Assumes nothing.
use Prim.Native.Nat.{ℕ, ◌+◌, ◌-◌}
use mathlib.Core.Path.{◌≡◌, sym, ◌∙◌, ap}
use mathlib.Core.Bool.{Bool, true}
use mathlib.Core.List.{List, ◌++◌}
use native.Mathlib.Omega.{arith}
use lib.ListN.{length, take, drop}
use lib.Seq.{length-take-le}
use Rattle.refusal.specs.Said.{gives}
use Rattle.varint.specs.Written.{written, written_if, wrote_said, writing}
use Rattle.item.specs.Records.{meaning, read_record, record_call}
use Rattle.item.specs.Contents.{record_of}
use Rattle.kinds.specs.declared.Version.{Version}
use Rattle.item.specs.declared.Record.{Record}
use Rattle.record_call.specs.Calls.{said_by, tidy_said, Called}
use Rattle.record_call.specs.declared.CallAnswer.{CallAnswer}
use Rattle.record_call.specs.declared.CallAnswer.TheVariants as calls
use Rattle.record_call.specs.declared.RecordCall.{RecordCall}
use Rattle.written.specs.Written.{record_bytes}
use Rattle.written.specs.Unwritable.{record_writable}
use Rattle.written.specs.Laws.{TypedRecord}
use Rattle.written.proofs.Theorems.{written_reads, reads_written, rewritten, record_calls}
use Rattle.record_laws.specs.Laws.{ReadBack, WrittenCalled, CalledWritten}
use Rattle.record_laws.proofs.Answers.{past_is, Room, has_room, stands, written_there, said_got, meant_got}

-- ---- written and read again

module _ (v : Version) (s : List ℕ) (r : Record) (typed : TypedRecord r) (ok : record_writable v s r ≡ true) (after : List ℕ) where
  abbrev window : List ℕ
  window = record_bytes s r ++ after

  reads_back : (last : Bool) (c : RecordCall) → Called v window last c → ReadBack v s r window (length (record_bytes s r)) c
  reads_back last c called =
      let n = length (record_bytes s r) in
      let b = written_reads v s r typed ok after in
      let m = meant_got window (read_record v window 0) (meaning s (record_of r)) n b.0 in
      let g = said_got c.answer c.value m.read n (called.said ∙ (record_calls v window last).complete m.read n m.is) in
      record { used = g.0; same = ap (meaning window) g.1 ∙ m.same; clean = b.1 }

pub written_called : WrittenCalled
written_called v s r typed xs at w ys writes next past window after begins last c called =
    let ok = record_writable v s r in
    let bs = record_bytes s r in
    let k : Room ok xs at bs next = has_room ok xs at bs next (sym writes.answer ∙ ap wrote_said past) in
    let y : ys ≡ written xs at bs = writes.target ∙ ap (λ t. written_if t xs at bs) k.writable in
    let n : next - at ≡ length bs = omega (arith, k.past) in
    let t : take (next - at) (drop at ys) ≡ bs = rw (n, y) (stands xs at bs k.fits) in
    let q : window ≡ bs ++ after = begins ∙ ap (λ l. l ++ after) t in
    rw (q, n) (reads_back v s r typed k.writable after last c (rw q at called))

-- ---- read and written again

module _ (v : Version) (s : List ℕ) (last : Bool) (c : RecordCall) (called : Called v s last c) (used : ℕ) (g : c.answer ≡ calls.Got used) where
  gave : record_call v s last ≡ gives (record_of c.value) used
  gave = sym called.said ∙ ap (λ (a : CallAnswer). said_by a c.value) g

  is_tidy : tidy_said (calls.Got used) c.value ≡ c.value
  is_tidy = ap (λ (a : CallAnswer). tidy_said a c.value) (sym g) ∙ called.tidy

pub called_written : CalledWritten
called_written v s b last c called used g clean xs at h w ys writes =
    let r = c.value in
    let read = (record_calls v s last).sound (record_of r) used (gave v s last c called used g) in
    let x = rewritten v s r used b read (is_tidy v s last c called used g) clean in
    let n : length (take used s) ≡ used = length-take-le used s (reads_written v s (record_of r) used b read clean).within in
    let k = written_there xs at (take used s) used n h in
    let a : wrote_said w ≡ writing true xs at (take used s) = rw (x.0, x.1) at writes.answer in
    let y : ys ≡ written xs at (take used s) = rw (x.0, x.1) at writes.target in
    (past_is w (at + used) (a ∙ k.0), y ∙ k.1)
