-- The record call refuses 3 to 7 and 21 only, each exactly for its cause. Assumes nothing.
use Prim.Native.Nat.{ℕ, ◌≤◌}
use mathlib.Core.Path.{◌≡◌, refl, ◌∙◌}
use mathlib.Core.Bool.{Bool, true, false}
use mathlib.Core.List.{List}
use mathlib.Core.Logic.{◌⊎◌, inl, inr}
use native.Mathlib.Omega.{arith}
use lib.IntN.{ℤ}
use Rattle.refusal.specs.Numbers.{number_of}
use Rattle.refusal.specs.Said.{refuses, refusing}
use Rattle.refusal.specs.declared.Refusal.{Refusal}
use Rattle.refusal.specs.declared.Refusal.TheVariants.{UnexpectedEnd}
use Rattle.packer.specs.declared.Part.{Part}
use Rattle.fields.specs.Fields.{Reading, got, runs_out, refused}
use Rattle.item.specs.Records.{Content, read_record, record_said, record_call}
use Rattle.kinds.specs.declared.Version.{Version}
use Rattle.kinds.specs.declared.Kind.{Kind}
use Rattle.causes.specs.Causes.{in_kind, in_rest, KindRefused, unknown_type, RestRefused, negative_dt, negative_num_args, num_args_too_large, negative_message, negative_payload}
use Rattle.causes.proofs.Theorems.{records_refused}
use Rattle.record_laws.specs.Laws.{RecordCause, unexpected_end, in_record, Caused, RecordRefuses, ThreeToSevenOr21}

caused : (v : Version) (s : List ℕ) (last : Bool) (n : ℕ) (vs : List ℤ) (x : Reading (Content Part)) → read_record v s 0 ≡ x
    → record_said last x ≡ refuses n vs → Caused v s last n vs
caused v s last n vs (got c m) x e = let z : ◌≡◌ {A = ℕ} 0 1 = cc in absurd (omega arith)
caused v s true n vs runs_out x e = record { refusal = UnexpectedEnd; number = cc; values = cc; cause = unexpected_end refl x }
caused v s false n vs runs_out x e = let z : ◌≡◌ {A = ℕ} 0 1 = cc in absurd (omega arith)
caused v s last n vs (refused r) x e =
    record { refusal = r; number = cc; values = cc; cause = in_record ((records_refused v s r).0 x) }

by_cause : (v : Version) (s : List ℕ) (last : Bool) {r : Refusal} → RecordCause v s last r → record_call v s last ≡ refusing r
unfolding record_call
by_cause v s last (unexpected_end l x) = rw (x, l)
by_cause v s last (in_record {r} x) = rw ((records_refused v s r).1 x)

pub record_refuses : RecordRefuses
unfolding record_call
record_refuses v s last n vs =
    (caused v s last n vs (read_record v s 0) refl, λ c. by_cause v s last c.cause ∙ rw (c.number, c.values))

-- ---- their numbers

abbrev Among : Refusal → Type 0
Among r = ((3 ≤ number_of r) × (number_of r ≤ 7)) ⊎ (number_of r ≡ 21)

kind_among : {v : Version} {w : List ℕ} {at : ℕ} {r : Refusal} → KindRefused v w at r → Among r
kind_among (unknown_type i u) = inl (omega arith, omega arith)

rest_among : {w : List ℕ} {at : ℕ} {k : Kind} {r : Refusal} → RestRefused w at k r → Among r
rest_among (negative_dt i) = inl (omega arith, omega arith)
rest_among (negative_num_args c i) = inl (omega arith, omega arith)
rest_among (num_args_too_large c i l s) = inl (omega arith, omega arith)
rest_among (negative_message i b) = inr refl
rest_among (negative_payload i b) = inr refl

among : {v : Version} {s : List ℕ} {last : Bool} {r : Refusal} → RecordCause v s last r → Among r
among (unexpected_end l x) = inl (omega arith, omega arith)
among (in_record (in_kind k)) = kind_among k
among (in_record (in_rest k x)) = rest_among x

pub three_to_seven_or_21 : ThreeToSevenOr21
three_to_seven_or_21 v s last n vs e =
    let c = (record_refuses v s last n vs).0 e in
    rw c.number (among c.cause)
