-- Bytes behind a record never matter: an answer other than that the bytes run out stays. Assumes nothing.
use Rattle.std.specs.Prelude.{Option, Some, None}
use Prim.Native.Nat.{ℕ, ◌≤◌}
use mathlib.Core.Path.{◌≡◌, refl, sym, ◌∙◌, ap}
use mathlib.Core.Bool.{false, false≢true}
use mathlib.Core.List.{List, ◌++◌}
use lib.ListN.{length}
use lib.Seq.{take-append-le}
use lib.IntN.{ℤ}
use Rattle.varint.specs.Integers.{read_int}
use Rattle.varint.specs.Laws.{Steady}
use Rattle.varint.specs.declared.IntRead.{IntRead}
use Rattle.varint.specs.declared.IntRead.TheVariants as ints
use Rattle.varint.proofs.Theorems.{int_steady}
use Rattle.packer.specs.Parts.{shown, read_raw, read_data}
use Rattle.packer.specs.declared.Part.{Part}
use Rattle.packer.specs.declared.PartRead.{PartRead}
use Rattle.packer.specs.declared.PartRead.TheVariants as parts
use Rattle.packer.specs.declared.DataRead.{DataRead}
use Rattle.packer.specs.declared.DataRead.TheVariants as blobs
use Rattle.packer.proofs.Parts.{raw_taken, data_taken, data_below, below_data, below_steady}
use Rattle.fields.specs.Fields.{Value, Reading, got, runs_out, refused, read_fields}
use Rattle.fields.specs.Laws.{is_out}
use Rattle.fields.proofs.Steady.{int_had, all_steady}
use Rattle.kinds.specs.Kinds.{kind_of, read_kind}
use Rattle.kinds.specs.steps.Kinds.{with_client, after_number}
use Rattle.extensions.specs.Extensions.{Payload, shaped, all_data, find, payload_at}
use Rattle.extensions.specs.declared.Extension.{Extension}
use Rattle.item.specs.Records.{Rest, fields, extension, rest_of, as_content, of_payload, of_found, read_ex, read_as, read_rest, read_record}
use Rattle.item.specs.steps.Reading.{after_data, after_id, after_kind}
use Rattle.kinds.specs.declared.Version.{Version}
use Rattle.kinds.specs.declared.Kind.{Kind}
use Rattle.item.specs.declared.Tag.{Tag}
use Rattle.item.specs.declared.Tag.TheVariants.{Plain}
use Rattle.written.proofs.KindLaws.{Sort, alone, player, none, sort_of_law}

-- ---- a kind

of_steady : (v : Version) (s t : List ℕ) (z : ℤ) (n : ℕ) → Sort v z → is_out (kind_of v s z n) ≡ false → kind_of v (s ++ t) z n ≡ kind_of v s z n
of_steady v s t z n (alone k x is) e = is (s ++ t) n ∙ sym (is s n)
of_steady v s t z n (player make x r is) e =
    let h = int_had (with_client make) refl (read_int s n) (sym (ap is_out (is s n)) ∙ e) in
    is (s ++ t) n ∙ ap (with_client make) (int_steady.0 s t n h) ∙ sym (is s n)
of_steady v s t z n (none r is) e = is (s ++ t) n ∙ sym (is s n)

number_steady : (v : Version) (s t : List ℕ) (i : IntRead) → is_out (after_number v s i) ≡ false → after_number v (s ++ t) i ≡ after_number v s i
number_steady v s t (ints.Got z n r) e = of_steady v s t z n (sort_of_law v z) e
number_steady v s t ints.RunsOut e = refl

pub kind_steady : (v : Version) → Steady is_out (read_kind v)
unfolding read_kind
kind_steady v s t at e =
    rw (int_steady.0 s t at (int_had (after_number v s) refl (read_int s at) e)) (number_steady v s t (read_int s at) e)

-- ---- an extension

payload_steady : (s t : List ℕ) (p : Part) (k : Extension) (l : Payload) (n : ℕ) → n ≤ length s → of_payload (s ++ t) p k l n ≡ of_payload s p k l n
payload_steady s t p k (shaped fs) n h = rw (take-append-le n s t h)
payload_steady s t p k all_data n h = refl

found_steady : (s t : List ℕ) (id p : Part) (f : Option Extension) (n : ℕ) → n ≤ length s → of_found (s ++ t) id p f n ≡ of_found s id p f n
found_steady s t id p (Some k) n h = payload_steady s t p k (payload_at k) n h
found_steady s t id p None n h = refl

data_steady : (s t : List ℕ) (id : Part) (n : ℕ) → shown (s ++ t) id ≡ shown s id → (x : DataRead) → read_data s n ≡ x → is_out (after_data s id x) ≡ false
    → after_data (s ++ t) id (read_data (s ++ t) n) ≡ after_data s id x
data_steady s t id n same (blobs.Got p m) x e =
    let d = data_taken s n m p x in
    rw (d.steady t, same) (found_steady s t id p (find (shown s id)) m d.within)
data_steady s t id n same blobs.RunsOut x e = absurd (false≢true (sym e))
data_steady s t id n same blobs.NegativeLength x e =
    ap (after_data (s ++ t) id) (below_data (s ++ t) n (below_steady s n (data_below s n x) t))

id_steady : (s t : List ℕ) (at : ℕ) (x : PartRead) → read_raw 16 s at ≡ x → is_out (after_id s x) ≡ false
    → after_id (s ++ t) (read_raw 16 (s ++ t) at) ≡ after_id s x
id_steady s t at (parts.Got id n) x e =
    let d = raw_taken 16 s at n id x in
    rw (d.steady t) (data_steady s t id n (d.shows t) (read_data s n) refl e)
id_steady s t at parts.RunsOut x e = absurd (false≢true (sym e))

-- ---- a record

content_had : (tag : Tag) (x : Reading (List (Value Part))) → is_out (as_content tag x) ≡ is_out x
content_had tag (got vs next) = refl
content_had tag runs_out = refl
content_had tag (refused r) = refl

pub rest_steady : (k : Kind) (rest : Rest) → Steady is_out (λ s at. read_as s k rest at)
unfolding read_ex
rest_steady k (fields fs gs) s t at e =
    let x = read_fields (fs ++ gs) s at in
    ap (as_content (Plain k)) (all_steady (fs ++ gs) s t at (sym (content_had (Plain k) x) ∙ e))
rest_steady k extension s t at e = id_steady s t at (read_raw 16 s at) refl e

then_steady : (s t : List ℕ) (x : Reading Kind) → is_out (after_kind s x) ≡ false → after_kind (s ++ t) x ≡ after_kind s x
unfolding read_rest
then_steady s t (got k n) e = rest_steady k (rest_of k) s t n e
then_steady s t runs_out e = refl
then_steady s t (refused r) e = refl

kind_had : (s : List ℕ) (x : Reading Kind) → is_out (after_kind s x) ≡ false → is_out x ≡ false
kind_had s (got k n) e = refl
kind_had s runs_out e = e
kind_had s (refused r) e = refl

pub record_stays : (v : Version) → Steady is_out (read_record v)
unfolding read_record
record_stays v s t at e =
    rw (kind_steady v s t at (kind_had s (read_kind v s at) e)) (then_steady s t (read_kind v s at) e)
