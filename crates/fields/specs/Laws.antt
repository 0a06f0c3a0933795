-- What holds of fields, as statements; proofs/Theorems.antt proves each.
use Rattle.std.specs.Prelude.{ℕ, ◌+◌, ◌≤◌, ◌≡◌, Bool, true, false, List, ◌++◌, map, length, drop}
use Rattle.varint.specs.Laws.{Bytes, Steady, Shorter}
use Rattle.packer.specs.declared.Part.{Part}
use Rattle.fields.specs.Fields.{Field, Value, Reading, got, runs_out, refused, with_got, read_fields, mean}
use Rattle.fields.specs.Remarks.{remarks}
use Rattle.fields.specs.Writing.{write_fields}
use Rattle.fields.specs.Forms.{AllSorted, all_writable}

abbrev pub means : List ℕ → Reading (List (Value Part)) → Reading (List (Value (List ℕ)))
means s x = with_got x (λ vs. got (map (mean s) vs))

-- written and read again: the same meaning, exactly the written bytes used, no remark, whatever stands before and after
abbrev pub FieldsWrittenReads : Type 0
FieldsWrittenReads =
    (fs : List Field) (ms : List (Value (List ℕ))) → AllSorted fs ms → all_writable fs ms ≡ true → (s rest : List ℕ) (at : ℕ)
    → at ≤ length s → drop at s ≡ write_fields fs ms ++ rest
    → (means s (read_fields fs s at) ≡ got ms (at + length (write_fields fs ms))) × (remarks fs s at ≡ 0)

-- read without a remark: the bytes used are the written form of the meaning
abbrev pub FieldsReadsWritten : Type 0
FieldsReadsWritten =
    (fs : List Field) (s : List ℕ) (at next : ℕ) (vs : List (Value Part)) → at ≤ length s → Bytes s
    → read_fields fs s at ≡ got vs next → remarks fs s at ≡ 0 → drop at s ≡ write_fields fs (map (mean s) vs) ++ drop next s

abbrev pub is_out : {A : Type 0} → Reading A → Bool
is_out (got a next) = false
is_out runs_out = true
is_out (refused r) = false

abbrev pub FieldsSteady : Type 0
FieldsSteady = (fs : List Field) → Steady is_out (read_fields fs) × Shorter is_out (read_fields fs)
