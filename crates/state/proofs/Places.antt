-- Where kinds and records that were read end: within the window. Of which sort a record is. Assumes nothing.
use Rattle.std.specs.Prelude.{Option, Some, None}
use Prim.Native.Nat.{ℕ, zero, suc, ◌≤◌, zero-le}
use mathlib.Core.Path.{◌≡◌, refl}
use mathlib.Core.Bool.{true}
use mathlib.Core.List.{List, ◌++◌}
use lib.ListN.{length, take}
use lib.IntN.{ℤ, pos, negsuc}
use Rattle.varint.specs.Integers.{read_int}
use Rattle.varint.specs.declared.IntRead.{IntRead}
use Rattle.varint.specs.declared.IntRead.TheVariants as ints
use Rattle.varint.proofs.Prefix.{int_within}
use Rattle.packer.specs.Parts.{shown, read_raw, read_data}
use Rattle.packer.specs.declared.Part.{Part}
use Rattle.packer.specs.declared.PartRead.{PartRead}
use Rattle.packer.specs.declared.PartRead.TheVariants as parts
use Rattle.packer.specs.declared.DataRead.{DataRead}
use Rattle.packer.specs.declared.DataRead.TheVariants as blobs
use Rattle.packer.proofs.Parts.{data_taken}
use Rattle.fields.specs.Fields.{Field, Value, Reading, got, runs_out, refused, read_fields}
use Rattle.fields.proofs.AllTaken.{fields_taken}
use Rattle.kinds.specs.Kinds.{kind_of, read_kind}
use Rattle.kinds.specs.steps.Kinds.{with_client, extension_kind, after_number}
use Rattle.extensions.specs.Extensions.{Payload, shaped, all_data, find, payload_at}
use Rattle.extensions.specs.declared.Extension.{Extension}
use Rattle.item.specs.Records.{Content, Rest, fields, rest_of, as_content, of_payload, of_found, read_ex, read_as, read_rest}
use Rattle.item.specs.steps.Reading.{up_to, after_data, after_id}
use Rattle.item.specs.Records as records
use Rattle.kinds.specs.declared.Version.{Version}
use Rattle.kinds.specs.declared.Version.TheVariants.{V1, V2}
use Rattle.kinds.specs.declared.Kind.{Kind}
use Rattle.kinds.specs.declared.Kind.TheVariants as kinds
use Rattle.item.specs.declared.Tag.TheVariants.{Plain, Named}
use Rattle.state.specs.Sorts.{sort_of, tag_sort}
use Rattle.state.specs.State.{good_pending}
use Rattle.state.specs.steps.Parts.{good_kind}
use Rattle.state.specs.Reading.{next_kind}

-- ---- kinds

-- a kind that was read is good: no PlayerDiff of a negative client, no extension in version 1
abbrev pub kind_read : Version → ℕ → Reading Kind → Type 0
kind_read v l (got k n) = (n ≤ l) × (good_kind v k ≡ true)
kind_read v l runs_out = Unit
kind_read v l (refused r) = Unit

module _ (v : Version) (w : List ℕ) (at : ℕ) (h : at ≤ length w) where
  client_read : (f : ℤ → Kind) → ((c : ℤ) → good_kind v (f c) ≡ true) → (i : IntRead) → read_int w at ≡ i → kind_read v (length w) (with_client f i)
  client_read f g (ints.Got c next remark) e = (int_within w at c next remark h e, g c)
  client_read f g ints.RunsOut e = tt

extension_read : (v : Version) (l n : ℕ) → n ≤ l → kind_read v l (extension_kind v n)
extension_read V1 l n h = tt
extension_read V2 l n h = (h, refl)

kind_read_law : (v : Version) (w : List ℕ) (z : ℤ) (at : ℕ) → at ≤ length w → kind_read v (length w) (kind_of v w z at)
kind_read_law v w (pos c) at h = (h, refl)
kind_read_law v w (negsuc zero) at h = (h, refl)
kind_read_law v w (negsuc (suc zero)) at h = (h, refl)
kind_read_law v w (negsuc (suc (suc zero))) at h = client_read v w at h kinds.PlayerNew (λ c. refl) (read_int w at) refl
kind_read_law v w (negsuc (suc (suc (suc zero)))) at h = client_read v w at h kinds.PlayerOld (λ c. refl) (read_int w at) refl
kind_read_law v w (negsuc (suc (suc (suc (suc zero))))) at h = (h, refl)
kind_read_law v w (negsuc (suc (suc (suc (suc (suc zero)))))) at h = (h, refl)
kind_read_law v w (negsuc (suc (suc (suc (suc (suc (suc zero))))))) at h = (h, refl)
kind_read_law v w (negsuc (suc (suc (suc (suc (suc (suc (suc zero)))))))) at h = (h, refl)
kind_read_law v w (negsuc (suc (suc (suc (suc (suc (suc (suc (suc zero))))))))) at h = (h, refl)
kind_read_law v w (negsuc (suc (suc (suc (suc (suc (suc (suc (suc (suc zero)))))))))) at h = (h, refl)
kind_read_law v w (negsuc (suc (suc (suc (suc (suc (suc (suc (suc (suc (suc zero))))))))))) at h = extension_read v (length w) at h
kind_read_law v w (negsuc (suc (suc (suc (suc (suc (suc (suc (suc (suc (suc (suc n)))))))))))) at h = tt

number_read : (v : Version) (w : List ℕ) (i : IntRead) → read_int w 0 ≡ i → kind_read v (length w) (after_number v w i)
number_read v w (ints.Got z next remark) e = kind_read_law v w z next (int_within w 0 z next remark zero-le e)
number_read v w ints.RunsOut e = tt

-- the pending kind or one that is read; good if the pending one is
abbrev pub kind_told : Version → Option Kind → ℕ → Reading Kind → Type 0
kind_told v p l (got k n) = (n ≤ l) × (good_pending v p ≡ true → good_kind v k ≡ true)
kind_told v p l runs_out = Unit
kind_told v p l (refused r) = Unit

read_told : (v : Version) (p : Option Kind) (l : ℕ) (x : Reading Kind) → kind_read v l x → kind_told v p l x
read_told v p l (got k n) h = (h.0, λ _. h.1)
read_told v p l runs_out h = tt
read_told v p l (refused r) h = tt

pub next_told_law : (v : Version) (p : Option Kind) (w : List ℕ) → kind_told v p (length w) (next_kind v p w)
unfolding next_kind read_kind
next_told_law v None w = read_told v None (length w) (after_number v w (read_int w 0)) (number_read v w (read_int w 0) refl)
next_told_law v (Some k) w = (zero-le, λ g. g)

-- ---- records

-- a record is of its kind's sort
abbrev pub RestSort : Kind → Reading (Content Part) → Type 0
RestSort k (got c n) = tag_sort c.tag ≡ sort_of k
RestSort k runs_out = Unit
RestSort k (refused r) = Unit

abbrev is_plain : Rest → Type 0
is_plain (fields fs gs) = Unit
is_plain records.extension = ⊥

fields_sort : (k : Kind) (x : Reading (List (Value Part))) → RestSort k (as_content (Plain k) x)
fields_sort k (got vs next) = refl
fields_sort k runs_out = tt
fields_sort k (refused r) = tt

upto_sort : (k : Extension) (next : ℕ) (x : Reading (List (Value Part))) → RestSort kinds.Ex (up_to next (as_content (Named k) x))
upto_sort k next (got vs n) = refl
upto_sort k next runs_out = tt
upto_sort k next (refused r) = tt

payload_sort : (w : List ℕ) (p : Part) (k : Extension) (y : Payload) (next : ℕ) → RestSort kinds.Ex (of_payload w p k y next)
payload_sort w p k (shaped fs) next = upto_sort k next (read_fields fs (take next w) p.at)
payload_sort w p k all_data next = refl

found_sort : (w : List ℕ) (id p : Part) (f : Option Extension) (next : ℕ) → RestSort kinds.Ex (of_found w id p f next)
found_sort w id p (Some k) next = payload_sort w p k (payload_at k) next
found_sort w id p None next = refl

data_sort : (w : List ℕ) (id : Part) (x : DataRead) → RestSort kinds.Ex (after_data w id x)
data_sort w id (blobs.Got p next) = found_sort w id p (find (shown w id)) next
data_sort w id blobs.RunsOut = tt
data_sort w id blobs.NegativeLength = tt

id_sort : (w : List ℕ) (x : PartRead) → RestSort kinds.Ex (after_id w x)
id_sort w (parts.Got id next) = data_sort w id (read_data w next)
id_sort w parts.RunsOut = tt

as_sort : (k : Kind) (r : Rest) → is_plain r → (w : List ℕ) (at : ℕ) → RestSort k (read_as w k r at)
as_sort k (fields fs gs) p w at = fields_sort k (read_fields (fs ++ gs) w at)
as_sort k records.extension p w at = absurd p

plain_sort : (k : Kind) → is_plain (rest_of k) → (w : List ℕ) (at : ℕ) → RestSort k (read_as w k (rest_of k) at)
plain_sort k p w at = as_sort k (rest_of k) p w at

pub rest_sort : (k : Kind) (w : List ℕ) (at : ℕ) → RestSort k (read_rest k w at)
unfolding read_rest read_ex
rest_sort (kinds.PlayerDiff c) w at = plain_sort (kinds.PlayerDiff c) tt w at
rest_sort kinds.Finish w at = plain_sort kinds.Finish tt w at
rest_sort kinds.TickSkip w at = plain_sort kinds.TickSkip tt w at
rest_sort (kinds.PlayerNew c) w at = plain_sort (kinds.PlayerNew c) tt w at
rest_sort (kinds.PlayerOld c) w at = plain_sort (kinds.PlayerOld c) tt w at
rest_sort kinds.InputDiff w at = plain_sort kinds.InputDiff tt w at
rest_sort kinds.InputNew w at = plain_sort kinds.InputNew tt w at
rest_sort kinds.Message w at = plain_sort kinds.Message tt w at
rest_sort kinds.Join w at = plain_sort kinds.Join tt w at
rest_sort kinds.Drop w at = plain_sort kinds.Drop tt w at
rest_sort kinds.ConsoleCommand w at = plain_sort kinds.ConsoleCommand tt w at
rest_sort kinds.Ex w at = id_sort w (read_raw 16 w at)

-- and ends in the window
abbrev pub RestIn : ℕ → Reading (Content Part) → Type 0
RestIn l (got c n) = n ≤ l
RestIn l runs_out = Unit
RestIn l (refused r) = Unit

module _ (w : List ℕ) (at : ℕ) (h : at ≤ length w) where
  fields_in : (k : Kind) (fs : List Field) (x : Reading (List (Value Part))) → read_fields fs w at ≡ x → RestIn (length w) (as_content (Plain k) x)
  fields_in k fs (got vs next) e = (fields_taken fs w at h vs next e).within
  fields_in k fs runs_out e = tt
  fields_in k fs (refused r) e = tt

upto_in : (l : ℕ) (k : Extension) (next : ℕ) (x : Reading (List (Value Part))) → next ≤ l → RestIn l (up_to next (as_content (Named k) x))
upto_in l k next (got vs n) h = h
upto_in l k next runs_out h = tt
upto_in l k next (refused r) h = tt

payload_in : (w : List ℕ) (p : Part) (k : Extension) (y : Payload) (next : ℕ) → next ≤ length w → RestIn (length w) (of_payload w p k y next)
payload_in w p k (shaped fs) next h = upto_in (length w) k next (read_fields fs (take next w) p.at) h
payload_in w p k all_data next h = h

found_in : (w : List ℕ) (id p : Part) (f : Option Extension) (next : ℕ) → next ≤ length w → RestIn (length w) (of_found w id p f next)
found_in w id p (Some k) next h = payload_in w p k (payload_at k) next h
found_in w id p None next h = h

data_in : (w : List ℕ) (at : ℕ) (id : Part) (x : DataRead) → read_data w at ≡ x → RestIn (length w) (after_data w id x)
data_in w at id (blobs.Got p next) e = found_in w id p (find (shown w id)) next (data_taken w at next p e).within
data_in w at id blobs.RunsOut e = tt
data_in w at id blobs.NegativeLength e = tt

id_in : (w : List ℕ) (at : ℕ) (x : PartRead) → read_raw 16 w at ≡ x → RestIn (length w) (after_id w x)
id_in w at (parts.Got id next) e = data_in w next id (read_data w next) refl
id_in w at parts.RunsOut e = tt

as_in : (k : Kind) (r : Rest) (w : List ℕ) (at : ℕ) → at ≤ length w → RestIn (length w) (read_as w k r at)
unfolding read_ex
as_in k (fields fs gs) w at h = fields_in w at h k (fs ++ gs) (read_fields (fs ++ gs) w at) refl
as_in k records.extension w at h = id_in w at (read_raw 16 w at) refl

pub rest_in : (k : Kind) (w : List ℕ) (at : ℕ) → at ≤ length w → RestIn (length w) (read_rest k w at)
unfolding read_rest
rest_in k w at h = as_in k (rest_of k) w at h
