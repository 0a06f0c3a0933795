-- What the record call and the writer's call promise determines what they hand back. Assumes nothing.
use Rattle.std.specs.Prelude.{Result, Ok, Err}
use Prim.Native.Nat.{ℕ}
use mathlib.Core.Path.{◌≡◌, refl, sym, ◌∙◌, ap}
use Rattle.refusal.specs.declared.Refusal.{Refusal}
use Rattle.varint.specs.Written.{wrote_said}
use Rattle.packer.specs.declared.Part.{Part}
use Rattle.item.specs.Records.{Content}
use Rattle.item.specs.Contents.{record_of}
use Rattle.item.specs.declared.Record.{Record}
use Rattle.views.proofs.Refusals.{same_refusal}
use Rattle.views.proofs.Records.{records_shown}
use Rattle.record_call.specs.Calls.{said_by, tidy_said}
use Rattle.record_call.specs.declared.CallAnswer.{CallAnswer}
use Rattle.record_call.specs.declared.CallAnswer.TheVariants as calls
use Rattle.record_call.specs.declared.RecordCall.{RecordCall}
use Rattle.record_laws.specs.Laws.{CallDetermined, WriteDetermined}

same_call : (a b : CallAnswer) (r q : Record) → said_by a r ≡ said_by b q → tidy_said a r ≡ r → tidy_said b q ≡ q → (a ≡ b) × (r ≡ q)
same_call (calls.Got m) (calls.Got n) r q e x y =
    let k : m ≡ n = cc in
    let c : record_of r ≡ record_of q = cc in
    (ap calls.Got k, records_shown r q x y c)
same_call (calls.Got m) calls.More r q e x y = (cc, cc)
same_call (calls.Got m) (calls.Refused o) r q e x y = (cc, cc)
same_call calls.More (calls.Got n) r q e x y = (cc, cc)
same_call calls.More calls.More r q e x y = (refl, sym x ∙ y)
same_call calls.More (calls.Refused o) r q e x y = (cc, cc)
same_call (calls.Refused p) (calls.Got n) r q e x y = (cc, cc)
same_call (calls.Refused p) calls.More r q e x y = (cc, cc)
same_call (calls.Refused p) (calls.Refused o) r q e x y = (ap calls.Refused (same_refusal {A = Content Part} p o e), sym x ∙ y)

abbrev call_with : CallAnswer → Record → RecordCall
call_with a r = record { answer = a; value = r }

pub call_determined : CallDetermined
call_determined v s last a b x y =
    let p = same_call a.answer b.answer a.value b.value (x.said ∙ sym y.said) x.tidy y.tidy in
    ap (λ (n : CallAnswer). call_with n a.value) p.0 ∙ ap (call_with b.answer) p.1

same_wrote : (a b : Result ℕ Refusal) → wrote_said a ≡ wrote_said b → a ≡ b
same_wrote (Ok m) (Ok n) e = cc
same_wrote (Ok m) (Err o) e = cc
same_wrote (Err p) (Ok n) e = cc
same_wrote (Err p) (Err o) e = ap Err (same_refusal {A = ℕ} p o e)

pub write_determined : WriteDetermined
write_determined v s r xs at a b ys zs x y = (same_wrote a b (x.answer ∙ sym y.answer), x.target ∙ sym y.target)
