-- Reading is refused exactly for these causes, as statements; proofs/Theorems.antt proves each.
use Rattle.std.specs.Prelude.{ℕ, ◌≡◌, List, ◌↔◌}
use Rattle.refusal.specs.declared.Refusal.{Refusal}
use Rattle.fields.specs.Fields.{refused}
use Rattle.kinds.specs.Kinds.{read_kind}
use Rattle.item.specs.Records.{read_rest, read_record}
use Rattle.kinds.specs.declared.Version.{Version}
use Rattle.kinds.specs.declared.Kind.{Kind}
use Rattle.causes.specs.Causes.{KindRefused, RestRefused, RecordRefused}

abbrev pub KindsRefused : Type 0
KindsRefused = (v : Version) (w : List ℕ) (at : ℕ) (r : Refusal) → (read_kind v w at ≡ refused r) ↔ KindRefused v w at r

abbrev pub RestsRefused : Type 0
RestsRefused = (k : Kind) (w : List ℕ) (at : ℕ) (r : Refusal) → (read_rest k w at ≡ refused r) ↔ RestRefused w at k r

abbrev pub RecordsRefused : Type 0
RecordsRefused = (v : Version) (w : List ℕ) (r : Refusal) → (read_record v w 0 ≡ refused r) ↔ RecordRefused v w r
