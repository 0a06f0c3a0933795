-- Records that change no entry: their client stands among the values that the record itself has. Assumes nothing.
use Rattle.std.specs.Prelude.{Option, Some, None}
use Prim.Native.Nat.{ℕ, suc}
use mathlib.Core.Path.{◌≡◌, refl, sym, ap, ◌∙◌}
use mathlib.Core.Bool.{Bool, true, false, cond}
use mathlib.Core.List.{List, [], ◌∷◌}
use native.Mathlib.Omega.{arith}
use lib.ListN.{length, take}
use lib.IntN.{ℤ}
use Rattle.packer.specs.declared.Part.{Part}
use Rattle.fields.specs.Fields.{Value, num, bytes, strings, Reading, got, runs_out, refused}
use Rattle.fields.specs.Views.{numbers}
use Rattle.item.specs.Said.{gives}
use Rattle.extensions.specs.Extensions.{Payload, shaped, all_data, extension_row, payload_at, has_client, all}
use Rattle.extensions.specs.declared.Extension.{Extension}
use Rattle.extensions.proofs.Each.{tested}
use Rattle.item.specs.Records.{Content, read_rest}
use Rattle.item.specs.Contents.{tag_cid, cid_of, own_payload}
use Rattle.item.specs.steps.Beside.{first_number}
use Rattle.item.specs.Own.{own_fields}
use Rattle.kinds.specs.Kinds.{kind_cid}
use Rattle.kinds.specs.declared.Kind.{Kind}
use Rattle.kinds.specs.declared.Kind.TheVariants as kinds
use Rattle.item.specs.declared.Tag.{Tag}
use Rattle.item.specs.declared.Tag.TheVariants.{Plain, Named, Other}
use Rattle.records.specs.steps.Views.{own, item_is}
use Rattle.item.specs.Own.{own_content}
use Rattle.records.specs.declared.ItemRead.{ItemRead}
use Rattle.state.specs.Sorts.{Sort, tag_sort}
use Rattle.state.specs.Sorts as sorts
use Rattle.state.specs.declared.Memory.{Memory}
use Rattle.state.specs.Reading.{Step, step_of, other, raising, refusal_step, out_of, apply_sort, apply}
use Rattle.state.specs.Slim.{slim_step}
use Rattle.state.specs.steps.Parts.{other_record, with_rest}
use Rattle.state.specs.declared.Scalars.{Scalars}
use Rattle.state.proofs.Places.{RestSort, rest_sort}
use Rattle.rests.specs.steps.Kinds.{other_sort, is_other}
use Rattle.rests.proofs.Slim.{slim_calm, calm_refusal, calm_out}

-- ---- the sorts of these records

pub no_other : {C : Type 0} → false ≡ true → C
no_other e = let z : ◌≡◌ {A = ℕ} 0 1 = cc in absurd (omega arith)

module _ (P : Kind → Type 0) (message : P kinds.Message) (join : P kinds.Join) (drop : P kinds.Drop) (command : P kinds.ConsoleCommand)
    (ex : P kinds.Ex)
  where
    pub by_other : (k : Kind) → is_other k ≡ true → P k
    by_other (kinds.PlayerDiff c) o = no_other o
    by_other kinds.Finish o = no_other o
    by_other kinds.TickSkip o = no_other o
    by_other (kinds.PlayerNew c) o = no_other o
    by_other (kinds.PlayerOld c) o = no_other o
    by_other kinds.InputDiff o = no_other o
    by_other kinds.InputNew o = no_other o
    by_other kinds.Message o = message
    by_other kinds.Join o = join
    by_other kinds.Drop o = drop
    by_other kinds.ConsoleCommand o = command
    by_other kinds.Ex o = ex

abbrev OtherRest : Reading (Content Part) → Type 0
OtherRest (got c n) = other_sort (tag_sort c.tag) ≡ true
OtherRest runs_out = Unit
OtherRest (refused r) = Unit

of_sort : (k : Kind) → is_other k ≡ true → (x : Reading (Content Part)) → RestSort k x → OtherRest x
of_sort k o (got c n) e = ap other_sort e ∙ o
of_sort k o runs_out e = tt
of_sort k o (refused r) e = tt

-- ---- the first number stays, since no extension is without fields

abbrev First : ℕ → Type 0
First n = (vs : List (Value Part)) → first_number (take n vs) ≡ first_number vs

first_more : (n : ℕ) → First (suc n)
first_more n [] = refl
first_more n (num z ∷ vs) = refl
first_more n (bytes p ∷ vs) = refl
first_more n (strings ps ∷ vs) = refl

abbrev full : Payload → Bool
full (shaped []) = false
full (shaped (f ∷ fs)) = true
full all_data = true

first_payload : (p : Payload) → full p ≡ true → First (length (own_payload p))
first_payload (shaped []) e = no_other e
first_payload (shaped (f ∷ fs)) e = first_more (length fs)
first_payload all_data e = first_more 0

first_named : (k : Extension) → First (length (own_payload (payload_at k)))
unfolding payload_at extension_row all
first_named k = first_payload (payload_at k) (tested (λ e. full (payload_at e)) refl k)

cid_kind : (k : Kind) (vs : List (Value Part)) → kind_cid k (first_number (take (length (own_fields (Plain k))) vs)) ≡ kind_cid k (first_number vs)
cid_kind (kinds.PlayerDiff c) vs = refl
cid_kind kinds.Finish vs = refl
cid_kind kinds.TickSkip vs = refl
cid_kind (kinds.PlayerNew c) vs = refl
cid_kind (kinds.PlayerOld c) vs = refl
cid_kind kinds.InputDiff vs = ap Some (first_more 0 vs)
cid_kind kinds.InputNew vs = ap Some (first_more 0 vs)
cid_kind kinds.Message vs = ap Some (first_more 1 vs)
cid_kind kinds.Join vs = ap Some (first_more 0 vs)
cid_kind kinds.Drop vs = ap Some (first_more 1 vs)
cid_kind kinds.ConsoleCommand vs = ap Some (first_more 2 vs)
cid_kind kinds.Ex vs = refl

cid_tag : (t : Tag) (vs : List (Value Part)) → tag_cid t (first_number (take (length (own_fields t)) vs)) ≡ tag_cid t (first_number vs)
cid_tag (Plain k) vs = cid_kind k vs
cid_tag (Named k) vs = ap (λ (z : ℤ). cond (has_client k) (Some z) None) (first_named k vs)
cid_tag Other vs = refl

-- a record has its client also without what stands beside it
pub cid_own : (c : Content Part) → cid_of (own_content c) ≡ cid_of c
cid_own c = cid_tag c.tag c.values

-- ---- what such a record changes

module _ (s : Scalars) (m : Memory) where
  apply_sort_law : (x : Sort) (c : Content Part) (zs : List ℤ) (n : ℕ) → other_sort x ≡ true → apply_sort x s m c zs n ≡ other_record s m c n
  apply_sort_law (sorts.player p z) c zs n o = no_other o
  apply_sort_law (sorts.input new) c zs n o = no_other o
  apply_sort_law sorts.skip c zs n o = no_other o
  apply_sort_law sorts.finish c zs n o = no_other o
  apply_sort_law (sorts.other ex) c zs n o = refl

  apply_other : (c : Content Part) (n : ℕ) → other_sort (tag_sort c.tag) ≡ true
      → step_of (gives (other (own_content c)) n) (raising (cid_of (own_content c)) s) m ≡ slim_step (apply s m c n)
  unfolding apply
  apply_other c n o =
      ap (λ (i : Option ℤ). step_of (gives (other (own_content c)) n) (raising i s) m) (cid_own c)
      ∙ ap slim_step (sym (apply_sort_law (tag_sort c.tag) c (numbers c.values) n o))

  module _ (last : Bool) where
    abbrev after_item : Reading (Content Part) → Step
    after_item (got c n) = step_of (gives (other c) n) (raising (cid_of c) s) m
    after_item runs_out = out_of last s m
    after_item (refused r) = refusal_step r s m

    other_step : (x : Reading (Content Part)) → OtherRest x → after_item (own x) ≡ slim_step (with_rest s m last x)
    other_step (got c n) o = apply_other c n o
    other_step runs_out o = sym (slim_calm _ (calm_out last s m))
    other_step (refused r) o = sym (slim_calm _ (calm_refusal r s m))

    pub other_rest : (w : List ℕ) (at : ℕ) (k : Kind) → is_other k ≡ true → (r i : ItemRead) → item_is r ≡ own (read_rest k w at) → r ≡ i
        → after_item (item_is i) ≡ slim_step (with_rest s m last (read_rest k w at))
    other_rest w at k o r i e f =
        ap after_item (ap item_is (sym f) ∙ e) ∙ other_step (read_rest k w at) (of_sort k o (read_rest k w at) (rest_sort k w at))
