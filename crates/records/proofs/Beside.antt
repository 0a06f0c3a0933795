-- Records with nothing beside them, and records without what stands beside them. Assumes nothing.
use Rattle.std.specs.Prelude.{Option, Some, None}
use Prim.Native.Nat.{ℕ}
use mathlib.Core.Path.{◌≡◌, refl, sym, ◌∙◌, ap}
use mathlib.Core.List.{List, [], ◌∷◌, ◌++◌, append-nil}
use lib.ListN.{length, take}
use lib.Seq.{take_at}
use Rattle.packer.specs.declared.Part.{Part}
use Rattle.packer.specs.declared.PartRead.{PartRead}
use Rattle.packer.specs.declared.PartRead.TheVariants as parts
use Rattle.packer.specs.declared.DataRead.{DataRead}
use Rattle.packer.specs.declared.DataRead.TheVariants as blobs
use Rattle.packer.specs.Parts.{shown, read_raw, read_data}
use Rattle.fields.specs.Fields.{dt, Value, Reading, got, runs_out, refused, read_fields}
use Rattle.fields.specs.Views.{zeros}
use Rattle.shapes.specs.steps.Shapes.{fields_in}
use Rattle.shapes.specs.declared.Shape.{Shape}
use Rattle.extensions.specs.Extensions.{Payload, shaped, all_data, payload_at, find}
use Rattle.extensions.specs.declared.Extension.{Extension}
use Rattle.item.specs.Records.{Content, content, as_content, of_payload, of_found, read_ex, read_rest}
use Rattle.item.specs.steps.Reading.{up_to, after_data, after_id}
use Rattle.item.specs.Contents.{item_of, no_args, record_with, record_of}
use Rattle.item.specs.Own.{own_fields}
use Rattle.item.specs.steps.Beside.{beside, tidy_tag}
use Rattle.kinds.specs.declared.Kind.{Kind}
use Rattle.kinds.specs.declared.Kind.TheVariants as kinds
use Rattle.item.specs.declared.Tag.{Tag}
use Rattle.item.specs.declared.Tag.TheVariants.{Plain, Named}
use Rattle.item.specs.declared.Item.{Item}
use Rattle.item.specs.declared.Record.{Record}
use Rattle.item.proofs.Lengths.{lengths}
use Rattle.records.specs.steps.Views.{own, item_is, rest_code, whole_of, RestRead}
use Rattle.item.specs.Own.{own_content}
use Rattle.records.specs.declared.ItemRead.{ItemRead}
use Rattle.records.specs.declared.ItemRead.TheVariants as items
use Rattle.records.specs.declared.Rest.{Rest}
use Rattle.records.specs.declared.Rest.TheVariants as rests
use Rattle.records.proofs.Rests.{by_rest, rest_told}

-- ---- nothing stands beside a record

pub record Lone (t : Tag) : Type 0 where
  pub none : beside t (zeros 10) no_args ≡ []
  pub tidy : (r : Record) → tidy_tag t r ≡ record_with r.item (zeros 10) no_args

abbrev pub AllLone : Reading (Content Part) → Type 0
AllLone (got c next) = Lone c.tag
AllLone runs_out = Unit
AllLone (refused r) = Unit

lone_as : (t : Tag) → Lone t → (x : Reading (List (Value Part))) → AllLone (as_content t x)
lone_as t h (got vs next) = h
lone_as t h runs_out = tt
lone_as t h (refused r) = tt

-- extensions

lone_named : (k : Extension) → Lone (Named k)
lone_named k = record { none = refl; tidy = λ r. refl }

lone_up : (end : ℕ) (x : Reading (Content Part)) → AllLone x → AllLone (up_to end x)
lone_up end (got c next) h = h
lone_up end runs_out h = tt
lone_up end (refused r) h = tt

lone_payload : (s : List ℕ) (p : Part) (k : Extension) (l : Payload) (next : ℕ) → AllLone (of_payload s p k l next)
lone_payload s p k (shaped fs) next =
    let x = read_fields fs (take next s) p.at in
    lone_up next (as_content (Named k) x) (lone_as (Named k) (lone_named k) x)
lone_payload s p k all_data next = lone_named k

lone_found : (s : List ℕ) (id p : Part) (f : Option Extension) (next : ℕ) → AllLone (of_found s id p f next)
lone_found s id p (Some k) next = lone_payload s p k (payload_at k) next
lone_found s id p None next = record { none = refl; tidy = λ r. refl }

lone_data : (s : List ℕ) (id : Part) (x : DataRead) → AllLone (after_data s id x)
lone_data s id (blobs.Got p next) = lone_found s id p (find (shown s id)) next
lone_data s id blobs.RunsOut = tt
lone_data s id blobs.NegativeLength = tt

lone_id : (s : List ℕ) (x : PartRead) → AllLone (after_id s x)
lone_id s (parts.Got id next) = lone_data s id (read_data s next)
lone_id s parts.RunsOut = tt

pub lone_ex : (s : List ℕ) (at : ℕ) → AllLone (read_ex s at)
unfolding read_ex
lone_ex s at = lone_id s (read_raw 16 s at)

-- plain kinds

pub lone_dt : (s : List ℕ) (at : ℕ) → AllLone (read_rest kinds.TickSkip s at)
unfolding read_rest
lone_dt s at = lone_as (Plain kinds.TickSkip) (record { none = refl; tidy = λ r. refl }) (read_fields (dt ∷ []) s at)

abbrev LoneBy : Kind → Rest → Type 0
LoneBy kind (rests.Shaped shape) = Lone (Plain kind)
LoneBy kind rests.Dt = Unit
LoneBy kind (rests.Input new) = Unit
LoneBy kind rests.Command = Unit
LoneBy kind rests.Extension = Unit

lone_is : (kind : Kind) → LoneBy kind (rest_code kind)
lone_is (kinds.PlayerDiff c) = record { none = refl; tidy = λ r. refl }
lone_is kinds.Finish = record { none = refl; tidy = λ r. refl }
lone_is kinds.TickSkip = tt
lone_is (kinds.PlayerNew c) = record { none = refl; tidy = λ r. refl }
lone_is (kinds.PlayerOld c) = record { none = refl; tidy = λ r. refl }
lone_is kinds.InputDiff = tt
lone_is kinds.InputNew = tt
lone_is kinds.Message = record { none = refl; tidy = λ r. refl }
lone_is kinds.Join = record { none = refl; tidy = λ r. refl }
lone_is kinds.Drop = record { none = refl; tidy = λ r. refl }
lone_is kinds.ConsoleCommand = tt
lone_is kinds.Ex = tt

pub lone_shaped : (kind : Kind) (shape : Shape) → rest_code kind ≡ rests.Shaped shape → (s : List ℕ) (at : ℕ) → AllLone (by_rest kind (rests.Shaped shape) s at)
lone_shaped kind shape e s at = lone_as (Plain kind) (rw e at (lone_is kind)) (read_fields (fields_in shape) s at)

-- a record with nothing beside it is whole
pub whole_rest : (kind : Kind) (s : List ℕ) (at : ℕ) (x : ItemRead) (y : Reading (Content Part))
    → item_is x ≡ y → AllLone y → y ≡ read_rest kind s at → RestRead kind s at (whole_of x)
whole_rest kind s at (items.Got i next) y e h g =
    let l : Lone (item_of i).tag = rw (← e) at h in
    record { values = rw (l.none, append-nil (item_of i).values) (e ∙ g); tidy = l.tidy (record_with i (zeros 10) no_args) }
whole_rest kind s at items.RunsOut y e h g = record { values = e ∙ g; tidy = refl }
whole_rest kind s at (items.Refused r) y e h g = record { values = e ∙ g; tidy = refl }

-- ---- a record without what stands beside it

-- the record's own values, whatever follows them
own_values : (i : Item) (vs : List (Value Part)) → own_content (content (item_of i).tag ((item_of i).values ++ vs)) ≡ item_of i
own_values i vs = ap (content (item_of i).tag) (take_at (item_of i).values vs (length (own_fields (item_of i).tag)) (lengths i))

pub own_record : (r : Record) → item_of r.item ≡ own_content (record_of r)
own_record r = sym (own_values r.item (beside (item_of r.item).tag r.input r.args))

own_item : (x : ItemRead) → item_is x ≡ own (item_is x)
own_item (items.Got i next) =
    ap (λ (c : Content Part). got c next) (sym (own_values i []) ∙ ap (λ (vs : List (Value Part)). own_content (content (item_of i).tag vs)) (append-nil (item_of i).values))
own_item items.RunsOut = refl
own_item (items.Refused r) = refl

-- read as the code goes on after the kind
pub own_by_law : (kind : Kind) (s : List ℕ) (at : ℕ) (r : Rest) (x : ItemRead) → item_is x ≡ by_rest kind r s at → rest_code kind ≡ r
    → item_is x ≡ own (read_rest kind s at)
own_by_law kind s at r x e t = own_item x ∙ ap own (e ∙ rest_told kind s at r t)

pub own_read : (x : ItemRead) (y : Reading (Content Part)) → item_is x ≡ y → item_is x ≡ own y
own_read x y e = own_item x ∙ ap own e
