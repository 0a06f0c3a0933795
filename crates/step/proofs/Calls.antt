-- A call on an open reader, from what was read of the kind. Assumes nothing.
use Prim.Native.Nat.{ℕ}
use mathlib.Core.Path.{◌≡◌, sym, ap, ◌∙◌}
use mathlib.Core.Bool.{Bool}
use mathlib.Core.List.{List}
use Rattle.refusal.specs.declared.Refusal.{Refusal}
use Rattle.kinds.specs.steps.Kinds.{kind_is}
use Rattle.kinds.specs.declared.Kind.{Kind}
use Rattle.kinds.specs.declared.KindRead.{KindRead}
use Rattle.kinds.specs.declared.KindRead.TheVariants as reads
use Rattle.state.specs.declared.Memory.{Memory}
use Rattle.state.specs.Reading.{refusal_step, out_of, tick_rule, with_rule, next_kind, open_call}
use Rattle.state.specs.Slim.{slim_step}
use Rattle.state.specs.steps.Parts.{with_kind}
use Rattle.state.specs.declared.Scalars.{Scalars}
use Rattle.rests.proofs.Slim.{slim_calm, calm_refusal, calm_out}

module _ (s : Scalars) (m : Memory) (w : List ℕ) (last : Bool) (r : KindRead) (k : kind_is r ≡ next_kind s.version s.pending w) where
  kind_told_law : (x : KindRead) → r ≡ x → slim_step (with_kind s m w last (kind_is x)) ≡ slim_step (open_call s m w last)
  unfolding open_call
  kind_told_law x e = ap (λ y. slim_step (with_kind s m w last y)) (ap kind_is (sym e) ∙ k)

  pub kind_got : (kind : Kind) (n : ℕ) → r ≡ reads.Got kind n
      → slim_step (with_rule s m w last kind n (tick_rule s kind)) ≡ slim_step (open_call s m w last)
  kind_got kind n e = kind_told_law (reads.Got kind n) e

  pub kind_out : r ≡ reads.RunsOut → out_of last s m ≡ slim_step (open_call s m w last)
  kind_out e = sym (slim_calm _ (calm_out last s m)) ∙ kind_told_law reads.RunsOut e

  pub kind_refused_law : (q : Refusal) → r ≡ reads.Refused q → refusal_step q s m ≡ slim_step (open_call s m w last)
  kind_refused_law q e = sym (slim_calm _ (calm_refusal q s m)) ∙ kind_told_law (reads.Refused q) e
