-- What holds of the record call and of the writer's call, as statements; proofs/Theorems.antt proves each. docs/FORMAT.md, "What a call
-- may say", "Records" and "The writer".
use Rattle.std.specs.Prelude.{ℕ, ◌+◌, ◌-◌, ◌≤◌, ◌≡◌, Bool, true, List, ◌++◌, ◌↔◌, ◌⊎◌, length, take, drop, ℤ, Result, Ok}
use Rattle.refusal.specs.Numbers.{number_of, values_of}
use Rattle.refusal.specs.Said.{refuses}
use Rattle.refusal.specs.declared.Refusal.{Refusal}
use Rattle.refusal.specs.declared.Refusal.TheVariants.{UnexpectedEnd}
use Rattle.varint.specs.Laws.{Bytes}
use Rattle.fields.specs.Fields.{runs_out}
use Rattle.item.specs.Records.{meaning, read_record, record_call}
use Rattle.item.specs.Remarks.{record_remarks}
use Rattle.item.specs.Contents.{record_of}
use Rattle.kinds.specs.declared.Version.{Version}
use Rattle.item.specs.declared.Record.{Record}
use Rattle.causes.specs.Causes.{RecordRefused}
use Rattle.record_call.specs.Calls.{Called}
use Rattle.record_call.specs.declared.CallAnswer.TheVariants.{Got}
use Rattle.record_call.specs.declared.RecordCall.{RecordCall}
use Rattle.written.specs.Unwritable.{Writes}
use Rattle.written.specs.Laws.{TypedRecord}

-- ---- written and read again in the same version: the same record, exactly the bytes written used, no remark, whatever follows

pub record ReadBack (v : Version) (s : List ℕ) (r : Record) (window : List ℕ) (size : ℕ) (c : RecordCall) : Type 0 where
  pub used : c.answer ≡ Got size
  pub same : meaning window (record_of c.value) ≡ meaning s (record_of r)
  pub clean : record_remarks v window 0 ≡ 0

-- the window begins with the bytes that stand in the target from `at` to `next`
abbrev pub WrittenCalled : Type 0
WrittenCalled =
    (v : Version) (s : List ℕ) (r : Record) → TypedRecord r → (xs : List ℕ) (at : ℕ) (w : Result ℕ Refusal) (ys : List ℕ) → Writes v s r xs at w ys
    → (next : ℕ) → w ≡ Ok next → (window after : List ℕ) → window ≡ take (next - at) (drop at ys) ++ after
    → (last : Bool) (c : RecordCall) → Called v window last c → ReadBack v s r window (next - at) c

-- ---- read without a remark and without spare payload, and written into a target with room: the same bytes

abbrev pub CalledWritten : Type 0
CalledWritten =
    (v : Version) (s : List ℕ) → Bytes s → (last : Bool) (c : RecordCall) → Called v s last c → (used : ℕ) → c.answer ≡ Got used
    → record_remarks v s 0 ≡ 0 → (xs : List ℕ) (at : ℕ) → at + used ≤ length xs → (w : Result ℕ Refusal) (ys : List ℕ) → Writes v s c.value xs at w ys
    → (w ≡ Ok (at + used)) × (ys ≡ take at xs ++ take used s ++ drop (at + used) xs)

-- ---- what the calls promise determines what they hand back

abbrev pub CallDetermined : Type 0
CallDetermined = (v : Version) (s : List ℕ) (last : Bool) (a b : RecordCall) → Called v s last a → Called v s last b → a ≡ b

abbrev pub WriteDetermined : Type 0
WriteDetermined =
    (v : Version) (s : List ℕ) (r : Record) (xs : List ℕ) (at : ℕ) (a b : Result ℕ Refusal) (ys zs : List ℕ)
    → Writes v s r xs at a ys → Writes v s r xs at b zs → (a ≡ b) × (ys ≡ zs)

-- ---- the record call refuses 3 to 7 and 21 only, each exactly for its cause

pub data RecordCause (v : Version) (s : List ℕ) (last : Bool) : Refusal → Type 0 where
  -- 3: the bytes run out, and no more come
  unexpected_end : last ≡ true → read_record v s 0 ≡ runs_out → RecordCause v s last UnexpectedEnd
  -- 4 to 7 and 21: the kind or the rest of the record is refused
  in_record : {r : Refusal} → RecordRefused v s r → RecordCause v s last r

-- the number and the values that the call says are those of a refusal that has its cause
pub record Caused (v : Version) (s : List ℕ) (last : Bool) (n : ℕ) (vs : List ℤ) : Type 0 where
  pub refusal : Refusal
  pub number : n ≡ number_of refusal
  pub values : vs ≡ values_of refusal
  pub cause : RecordCause v s last refusal

abbrev pub RecordRefuses : Type 0
RecordRefuses = (v : Version) (s : List ℕ) (last : Bool) (n : ℕ) (vs : List ℤ) → (record_call v s last ≡ refuses n vs) ↔ Caused v s last n vs

abbrev pub ThreeToSevenOr21 : Type 0
ThreeToSevenOr21 =
    (v : Version) (s : List ℕ) (last : Bool) (n : ℕ) (vs : List ℤ) → record_call v s last ≡ refuses n vs → ((3 ≤ n) × (n ≤ 7)) ⊎ (n ≡ 21)
