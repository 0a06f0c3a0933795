-- A call on lent memory is the call on the reader there. Assumes nothing.
use Prim.Native.Nat.{ℕ}
use mathlib.Core.Path.{◌≡◌, refl, ap, ◌∙◌}
use mathlib.Core.Bool.{true}
use mathlib.Core.List.{List}
use Rattle.item.specs.Said.{Said, gives, more, finish, refuses}
use Rattle.state.specs.State.{reader_with}
use Rattle.state.specs.declared.Memory.{Memory}
use Rattle.state.specs.Reading.{Event, Step, call_on, read_call, reader_after}
use Rattle.state.specs.Slim.{said_is}
use Rattle.state.specs.Slim.{slim_said, slim_step}
use Rattle.state.specs.steps.Inside.{done}
use Rattle.state.specs.declared.Scalars.{Scalars}
use Rattle.state.specs.declared.Outcome.{Outcome}
use Rattle.state.specs.declared.Reader.{Reader}
use Rattle.rows.proofs.Frame.{any_alike}
use Rattle.count.specs.Count.{used_by}

abbrev pub reader_of : Scalars → Memory → Reader
reader_of s m = reader_with s m.entries

slim_used : (x : Said Event) → used_by (slim_said x) ≡ used_by x
slim_used (gives e n) = refl
slim_used more = refl
slim_used (finish n) = refl
slim_used (refuses k vs) = refl

module _ (s : Scalars) (m : Memory) (w : List ℕ) (o : Outcome) (m' : Memory) (e : done o m' ≡ slim_step (call_on s m w true)) where
  abbrev call : Step
  call = read_call (reader_of s m) w true

  pub left_is : reader_of o.scalars m' ≡ reader_after call
  left_is =
      ap reader_after e
      ∙ (λ i. record { scalars = (any_alike s m w true).scalars i; entries = (any_alike s m w true).entries i })

  pub used_is : used_by (said_is o.answer) ≡ used_by call.said
  used_is = ap (λ (t : Step). used_by t.said) e ∙ slim_used (call_on s m w true).said ∙ ap used_by (any_alike s m w true).said
