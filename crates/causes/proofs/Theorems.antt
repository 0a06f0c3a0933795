-- The statements of specs/Laws.antt. Assumes nothing.
use Prim.Native.Nat.{ℕ}
use mathlib.Core.Path.{◌≡◌, refl, ◌∙◌, ap}
use mathlib.Core.List.{List}
use Rattle.refusal.specs.declared.Refusal.{Refusal}
use Rattle.fields.specs.Fields.{Reading, got, runs_out, refused}
use Rattle.kinds.specs.Kinds.{read_kind}
use Rattle.item.specs.Records.{read_record}
use Rattle.item.specs.steps.Reading.{after_kind}
use Rattle.kinds.specs.declared.Version.{Version}
use Rattle.kinds.specs.declared.Kind.{Kind}
use Rattle.causes.specs.Causes.{RecordRefused, in_kind, in_rest}
use Rattle.causes.specs.Laws.{KindsRefused, RestsRefused, RecordsRefused}
use Rattle.causes.proofs.Calm.{not_out}
use Rattle.causes.proofs.UnknownKinds.{kind_refused_law, refused_kind}
use Rattle.causes.proofs.RefusedRests.{rest_refused_law, refused_rest}

pub kinds_refused : KindsRefused
kinds_refused v w at r = (kind_refused_law v w at r, refused_kind)

pub rests_refused : RestsRefused
rests_refused k w at r = (rest_refused_law w at r k, refused_rest w at)

module _ (v : Version) (w : List ℕ) where
  after_kind_law : (r : Refusal) (x : Reading Kind) → read_kind v w 0 ≡ x → after_kind w x ≡ refused r → RecordRefused v w r
  after_kind_law r (got k n) x e = in_rest x (rest_refused_law w n r k e)
  after_kind_law r runs_out x e = not_out e
  after_kind_law r (refused q) x e =
      let same : q ≡ r = cc in
      in_kind (kind_refused_law v w 0 r (x ∙ ap refused same))

  by_cause : {r : Refusal} → RecordRefused v w r → read_record v w 0 ≡ refused r
  unfolding read_record
  by_cause (in_kind k) = rw (refused_kind k)
  by_cause (in_rest {n = n} k x) = rw k (refused_rest w n x)

pub records_refused : RecordsRefused
unfolding read_record
records_refused v w r = (after_kind_law v w r (read_kind v w 0) refl, by_cause v w)
