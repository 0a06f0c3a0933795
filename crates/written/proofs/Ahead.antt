-- What is read ends at or past the place where it begins, an integer past it. Assumes nothing.
use Rattle.std.specs.Prelude.{Option, Some, None}
use Prim.Native.Nat.{ℕ, zero, suc, ◌+◌, ◌≤◌, ◌<◌}
use mathlib.Core.Bool.{Bool, true, false, cond}
use mathlib.Core.List.{List, [], ◌∷◌, ◌++◌}
use native.Mathlib.Omega.{arith}
use lib.Dec.{leb, ltb, eqb}
use lib.ListN.{length, take, drop, get_or}
use lib.IntN.{ℤ, pos, negsuc}
use Rattle.varint.specs.Integers.{sign_of, amount, is_last, read_from, read_int}
use Rattle.varint.specs.declared.IntRead.{IntRead}
use Rattle.varint.specs.declared.IntRead.TheVariants as ints
use Rattle.packer.specs.Parts.{shown, read_raw, string_from, read_string, as_data, data_of, data_after, read_data}
use Rattle.packer.specs.declared.Part.{Part}
use Rattle.packer.specs.declared.PartRead.{PartRead}
use Rattle.packer.specs.declared.PartRead.TheVariants as parts
use Rattle.packer.specs.declared.DataRead.{DataRead}
use Rattle.packer.specs.declared.DataRead.TheVariants as blobs
use Rattle.fields.specs.Fields.{Field, int, dt, mask, str, uuid, blob, args, Value, Reading, got, runs_out, refused, args_from, read_field, read_fields}
use Rattle.fields.specs.steps.Sorts.{int_field, dt_from, dt_field, mask_field, part_field, data_field, one_arg, as_strings, args_of, args_field, push, and_then}
use Rattle.kinds.specs.Kinds.{kind_of, read_kind}
use Rattle.kinds.specs.steps.Kinds.{with_client, after_number}
use Rattle.extensions.specs.Extensions.{Payload, shaped, all_data, find, payload_at}
use Rattle.extensions.specs.declared.Extension.{Extension}
use Rattle.item.specs.Records.{Rest, fields, extension, Content, as_content, of_payload, of_found, read_ex, read_as, rest_of, read_rest}
use Rattle.item.specs.steps.Reading.{up_to, after_data, after_id}
use Rattle.kinds.specs.declared.Version.{Version}
use Rattle.kinds.specs.declared.Kind.{Kind}
use Rattle.item.specs.declared.Tag.{Tag}
use Rattle.item.specs.declared.Tag.TheVariants.{Named}
use Rattle.written.proofs.KindLaws.{Sort, alone, player, none, sort_of_law}

-- both things that a test picks from
either : {A : Type 0} (P : A → Type 0) (b : Bool) {x y : A} → P x → P y → P (cond b x y)
either P true p q = p
either P false p q = q

-- ---- integers and parts

abbrev IntPast : ℕ → IntRead → Type 0
IntPast at (ints.Got z next r) = at < next
IntPast at ints.RunsOut = Unit {0}

int_weaker : (a b : ℕ) (x : IntRead) → a ≤ b → IntPast b x → IntPast a x
int_weaker a b (ints.Got z next r) h p = omega arith
int_weaker a b ints.RunsOut h p = tt

from_past : (s : List ℕ) (at k sign n : ℕ) → IntPast (at + k) (read_from s at k sign n)
unfolding read_from
from_past [] at k sign n = tt
from_past (b ∷ s) at k sign n =
    either (IntPast (at + k)) (is_last k b) (omega arith)
    (int_weaker (at + k) (at + (k + 1)) (read_from s at (k + 1) sign (n + amount k b)) (omega arith) (from_past s at (k + 1) sign (n + amount k b)))

int_past : (s : List ℕ) (at : ℕ) → IntPast at (read_int s at)
unfolding read_int
int_past s at =
    let x = read_from (drop at s) at 0 (sign_of (get_or s at 0)) 0 in
    int_weaker at (at + 0) x (omega arith) (from_past (drop at s) at 0 (sign_of (get_or s at 0)) 0)

abbrev pub PartPast : ℕ → PartRead → Type 0
PartPast at (parts.Got p next) = at ≤ next
PartPast at parts.RunsOut = Unit {0}

raw_past : (n : ℕ) (s : List ℕ) (at : ℕ) → PartPast at (read_raw n s at)
unfolding read_raw
raw_past n s at = either (PartPast at) (leb (at + n) (length s)) (omega arith) tt

string_from_law : (s : List ℕ) (at n : ℕ) → PartPast at (string_from s at n)
unfolding string_from
string_from_law [] at n = tt
string_from_law (b ∷ s) at n = either (PartPast at) (eqb b 0) (omega arith) (string_from_law s at (n + 1))

string_past : (s : List ℕ) (at : ℕ) → PartPast at (read_string s at)
unfolding read_string
string_past s at = string_from_law (drop at s) at 0

abbrev DataPast : ℕ → DataRead → Type 0
DataPast at (blobs.Got p next) = at ≤ next
DataPast at blobs.RunsOut = Unit {0}
DataPast at blobs.NegativeLength = Unit {0}

data_weaker : (a b : ℕ) (x : DataRead) → a ≤ b → DataPast b x → DataPast a x
data_weaker a b (blobs.Got p next) h q = omega arith
data_weaker a b blobs.RunsOut h q = tt
data_weaker a b blobs.NegativeLength h q = tt

as_data_law : (at : ℕ) (x : PartRead) → PartPast at x → DataPast at (as_data x)
as_data_law at (parts.Got p next) h = h
as_data_law at parts.RunsOut h = tt

data_of_law : (s : List ℕ) (at : ℕ) (z : ℤ) (next : ℕ) → at < next → DataPast at (data_of s z next)
data_of_law s at (pos n) next h = data_weaker at next (as_data (read_raw n s next)) (omega arith) (as_data_law next (read_raw n s next) (raw_past n s next))
data_of_law s at (negsuc n) next h = tt

data_after_law : (s : List ℕ) (at : ℕ) (x : IntRead) → IntPast at x → DataPast at (data_after s x)
data_after_law s at (ints.Got z next r) h = data_of_law s at z next h
data_after_law s at ints.RunsOut h = tt

data_past : (s : List ℕ) (at : ℕ) → DataPast at (read_data s at)
unfolding read_data
data_past s at = data_after_law s at (read_int s at) (int_past s at)

-- ---- fields

abbrev pub Past : {A : Type 0} → ℕ → Reading A → Type 0
Past at (got a next) = at ≤ next
Past at runs_out = Unit {0}
Past at (refused r) = Unit {0}

int_field_law : (at : ℕ) (x : IntRead) → IntPast at x → Past at (int_field x)
int_field_law at (ints.Got z next r) h = omega arith
int_field_law at ints.RunsOut h = tt

dt_of : (at : ℕ) (z : ℤ) (next : ℕ) → at < next → Past at (dt_from z next)
dt_of at (pos n) next h = omega arith
dt_of at (negsuc n) next h = tt

dt_field_law : (at : ℕ) (x : IntRead) → IntPast at x → Past at (dt_field x)
dt_field_law at (ints.Got z next r) h = dt_of at z next h
dt_field_law at ints.RunsOut h = tt

mask_field_law : (at : ℕ) (x : IntRead) → IntPast at x → Past at (mask_field x)
mask_field_law at (ints.Got z next r) h = omega arith
mask_field_law at ints.RunsOut h = tt

part_field_law : (at : ℕ) (x : PartRead) → PartPast at x → Past at (part_field x)
part_field_law at (parts.Got p next) h = h
part_field_law at parts.RunsOut h = tt

data_field_law : (at : ℕ) (x : DataRead) → DataPast at x → Past at (data_field x)
data_field_law at (blobs.Got p next) h = h
data_field_law at blobs.RunsOut h = tt
data_field_law at blobs.NegativeLength h = tt

weaker : {A : Type 0} (a b : ℕ) (x : Reading A) → a ≤ b → Past b x → Past a x
weaker a b (got c next) h p = omega arith
weaker a b runs_out h p = tt
weaker a b (refused r) h p = tt

one_arg_law : (at : ℕ) (x : PartRead) (had : List Part) (k : List Part → ℕ → Reading (List Part)) → PartPast at x
    → ((ps : List Part) (n : ℕ) → Past n (k ps n)) → Past at (one_arg x had k)
one_arg_law at (parts.Got p next) had k h f =
    either (Past at) (ltb (length had) 16) (weaker at next (k (had ++ p ∷ []) next) h (f (had ++ p ∷ []) next)) tt
one_arg_law at parts.RunsOut had k h f = tt

args_from_law : (n : ℕ) (s : List ℕ) (had : List Part) (at : ℕ) → Past at (args_from n s had at)
unfolding args_from
args_from_law zero s had at = omega arith
args_from_law (suc n) s had at = one_arg_law at (read_string s at) had (args_from n s) (string_past s at) (args_from_law n s)

as_strings_law : (at : ℕ) (x : Reading (List Part)) → Past at x → Past at (as_strings x)
as_strings_law at (got ps next) h = h
as_strings_law at runs_out h = tt
as_strings_law at (refused r) h = tt

args_of_law : (s : List ℕ) (at : ℕ) (z : ℤ) (next : ℕ) → at < next → Past at (args_of s z next)
args_of_law s at (pos n) next h =
    as_strings_law at (args_from n s [] next) (weaker at next (args_from n s [] next) (omega arith) (args_from_law n s [] next))
args_of_law s at (negsuc n) next h = tt

args_field_law : (s : List ℕ) (at : ℕ) (x : IntRead) → IntPast at x → Past at (args_field s x)
args_field_law s at (ints.Got z next r) h = args_of_law s at z next h
args_field_law s at ints.RunsOut h = tt

field_past : (f : Field) (s : List ℕ) (at : ℕ) → Past at (read_field f s at)
field_past int s at = int_field_law at (read_int s at) (int_past s at)
field_past dt s at = dt_field_law at (read_int s at) (int_past s at)
field_past mask s at = mask_field_law at (read_int s at) (int_past s at)
field_past str s at = part_field_law at (read_string s at) (string_past s at)
field_past uuid s at = part_field_law at (read_raw 16 s at) (raw_past 16 s at)
field_past blob s at = data_field_law at (read_data s at) (data_past s at)
field_past args s at = args_field_law s at (read_int s at) (int_past s at)

push_past : (at : ℕ) (v : Value Part) (x : Reading (List (Value Part))) → Past at x → Past at (push v x)
push_past at v (got vs next) h = h
push_past at v runs_out h = tt
push_past at v (refused r) h = tt

then_past : (at : ℕ) (x : Reading (Value Part)) (k : ℕ → Reading (List (Value Part))) → Past at x → ((n : ℕ) → Past n (k n)) → Past at (and_then x k)
then_past at (got v next) k h f = push_past at v (k next) (weaker at next (k next) h (f next))
then_past at runs_out k h f = tt
then_past at (refused r) k h f = tt

fields_past : (fs : List Field) (s : List ℕ) (at : ℕ) → Past at (read_fields fs s at)
fields_past [] s at = omega arith
fields_past (f ∷ fs) s at = then_past at (read_field f s at) (read_fields fs s) (field_past f s at) (fields_past fs s)

-- ---- records and kinds

content_past : (at : ℕ) (t : Tag) (x : Reading (List (Value Part))) → Past at x → Past at (as_content t x)
content_past at t (got vs next) h = h
content_past at t runs_out h = tt
content_past at t (refused r) h = tt

upto_past : (at end : ℕ) (x : Reading (Content Part)) → at ≤ end → Past at (up_to end x)
upto_past at end (got c n) h = h
upto_past at end runs_out h = tt
upto_past at end (refused r) h = tt

payload_past : (s : List ℕ) (at : ℕ) (p : Part) (k : Extension) (y : Payload) (next : ℕ) → at ≤ next → Past at (of_payload s p k y next)
payload_past s at p k (shaped fs) next h = upto_past at next (as_content (Named k) (read_fields fs (take next s) p.at)) h
payload_past s at p k all_data next h = h

found_past : (s : List ℕ) (at : ℕ) (id p : Part) (f : Option Extension) (next : ℕ) → at ≤ next → Past at (of_found s id p f next)
found_past s at id p (Some k) next h = payload_past s at p k (payload_at k) next h
found_past s at id p None next h = h

after_data_law : (s : List ℕ) (at : ℕ) (id : Part) (x : DataRead) → DataPast at x → Past at (after_data s id x)
after_data_law s at id (blobs.Got p next) h = found_past s at id p (find (shown s id)) next h
after_data_law s at id blobs.RunsOut h = tt
after_data_law s at id blobs.NegativeLength h = tt

pub after_id_law : (s : List ℕ) (at : ℕ) (x : PartRead) → PartPast at x → Past at (after_id s x)
after_id_law s at (parts.Got id next) h =
    after_data_law s at id (read_data s next) (data_weaker at next (read_data s next) h (data_past s next))
after_id_law s at parts.RunsOut h = tt

as_past : (s : List ℕ) (k : Kind) (r : Rest) (at : ℕ) → Past at (read_as s k r at)
unfolding read_ex
as_past s k (fields fs gs) at = content_past at _ (read_fields (fs ++ gs) s at) (fields_past (fs ++ gs) s at)
as_past s k extension at = after_id_law s at (read_raw 16 s at) (raw_past 16 s at)

pub rest_past : (k : Kind) (s : List ℕ) (at : ℕ) → Past at (read_rest k s at)
unfolding read_rest
rest_past k s at = as_past s k (rest_of k) at

client_past : (at : ℕ) (make : ℤ → Kind) (x : IntRead) → IntPast at x → Past at (with_client make x)
client_past at make (ints.Got c next r) h = omega arith
client_past at make ints.RunsOut h = tt

kind_of_law : (v : Version) (s : List ℕ) (z : ℤ) (at : ℕ) → Sort v z → Past at (kind_of v s z at)
kind_of_law v s z at (alone k x is) = rw (is s at) (omega arith)
kind_of_law v s z at (player make x r is) = rw (is s at) (client_past at make (read_int s at) (int_past s at))
kind_of_law v s z at (none r is) = rw (is s at) tt

after_number_law : (v : Version) (s : List ℕ) (at : ℕ) (x : IntRead) → IntPast at x → Past (at + 1) (after_number v s x)
after_number_law v s at (ints.Got z next r) h = weaker (at + 1) next (kind_of v s z next) (omega arith) (kind_of_law v s z next (sort_of_law v z))
after_number_law v s at ints.RunsOut h = tt

-- a kind uses a byte at least
pub kind_past : (v : Version) (s : List ℕ) → Past 1 (read_kind v s 0)
unfolding read_kind
kind_past v s = after_number_law v s 0 (read_int s 0) (int_past s 0)
