-- One field that was read: the place past it is within the window, its parts lie inside it, what follows changes nothing, its
-- meaning has a written form, and where its integer has no remark its bytes are that form. Assumes nothing.
use Rattle.std.specs.Prelude.{Option, Some, None}
use Prim.Native.Nat.{ℕ, ◌+◌, ◌≤◌}
use mathlib.Core.Path.{◌≡◌, refl, sym, ◌∙◌, ap}
use mathlib.Core.Bool.{true}
use mathlib.Core.List.{List, [], ◌++◌, append_assoc, map}
use native.Mathlib.Omega.{arith}
use lib.ListN.{length, drop, length-map}
use lib.Dec.{leb}
use lib.IntN.{ℤ, pos, negsuc}
use borrow.Author.Tests.{le-leb}
use mir.Syntax.{w32}
use mir.Val.{of_z}
use mir.Facts.{to_z-of_z, Fits-of_z}
use Rattle.varint.specs.Integers.{read_int}
use Rattle.varint.specs.Written.{canonical}
use Rattle.varint.specs.Laws.{Bytes}
use Rattle.varint.specs.declared.Remark.{Remark}
use Rattle.varint.specs.declared.Remark.TheVariants.{Overlong, Padding}
use Rattle.varint.specs.declared.IntRead.{IntRead}
use Rattle.varint.specs.declared.IntRead.TheVariants as ints
use Rattle.varint.proofs.Prefix.{int_within, int_fits, int_whole}
use Rattle.packer.specs.Parts.{shown, read_raw, read_string, read_data}
use Rattle.packer.specs.declared.Part.{Part}
use Rattle.packer.specs.declared.PartRead.{PartRead}
use Rattle.packer.specs.declared.PartRead.TheVariants as parts
use Rattle.packer.specs.declared.DataRead.{DataRead}
use Rattle.packer.specs.declared.DataRead.TheVariants as blobs
use Rattle.packer.proofs.Parts as part-laws
use Rattle.fields.specs.Fields.{
  Field,
  int,
  dt,
  mask,
  str,
  uuid,
  blob,
  args,
  Value,
  num,
  bytes,
  strings,
  Reading,
  got,
  runs_out,
  refused,
  args_from,
  read_field,
  mean,
}
use Rattle.fields.specs.steps.Sorts.{int_field, dt_field, mask_field, part_field, data_field, as_strings, args_field, all_no_zero}
use Rattle.fields.specs.Remarks.{remark_in, field_remark}
use Rattle.fields.specs.Writing.{write_field, strings_bytes}
use Rattle.fields.specs.steps.Sorts.{value_inside}
use Rattle.fields.specs.Forms.{Sorted, writable}
use Rattle.fields.proofs.Answers.{not_out, not_refused, same_got, and_both}
use Rattle.fields.proofs.Strings.{args_had, string_inside}

pub record Taken (f : Field) (s : List ℕ) (at : ℕ) (v : Value Part) (next : ℕ) : Type 0 where
  pub within : next ≤ length s
  pub shows : (t : List ℕ) → mean (s ++ t) v ≡ mean s v
  pub inner : value_inside s v ≡ true
  pub sorted : Sorted f (mean s v)
  pub written : writable f (mean s v) ≡ true
  pub whole : Bytes s → field_remark f s at ≡ 0 → drop at s ≡ write_field f (mean s v) ++ drop next s

-- no remark counted is no remark
none : (z : ℤ) (m : ℕ) (k : Option Remark) → remark_in (ints.Got z m k) ≡ 0 → k ≡ None
none z m None e = refl
none z m (Some Overlong) e = absurd (omega arith)
none z m (Some Padding) e = absurd (omega arith)

module _ (s : List ℕ) (at : ℕ) (h : at ≤ length s) where
  -- ---- numbers

  int_taken : (z : ℤ) (m : ℕ) (k : Option Remark) → read_int s at ≡ ints.Got z m k → Taken int s at (num z) m
  int_taken z m k e =
      record {
        within = int_within s at z m k h e;
        shows = λ t. refl;
        inner = refl;
        sorted = int_fits s at z m k e;
        written = refl;
        whole = λ b r. (int_whole s at m z b (e ∙ ap (ints.Got z m) (none z m k (rw e at r)))).0;
      }

  dt_taken : (n m : ℕ) (k : Option Remark) → read_int s at ≡ ints.Got (pos n) m k → Taken dt s at (num (pos n)) m
  dt_taken n m k e =
      let g = int_taken (pos n) m k e in
      record {
        within = g.within;
        shows = λ t. refl;
        inner = refl;
        sorted = omega (arith, g.sorted.sfits);
        written = le-leb n 2147483647 (omega (arith, g.sorted.sfits));
        whole = g.whole;
      }

  mask_taken : (z : ℤ) (m : ℕ) (k : Option Remark) → read_int s at ≡ ints.Got z m k → Taken mask s at (num (pos (of_z w32 z))) m
  mask_taken z m k e =
      let g = int_taken z m k e in
      record {
        within = g.within;
        shows = λ t. refl;
        inner = refl;
        sorted = (Fits-of_z {w = w32} {z = z} g.sorted).fits;
        written = refl;
        whole = λ b r. rw (to_z-of_z {w = w32} {z = z} g.sorted) (g.whole b r);
      }

  -- ---- parts

  string_taken : (p : Part) (m : ℕ) → read_string s at ≡ parts.Got p m → Taken str s at (bytes p) m
  string_taken p m e =
      let g = part-laws.string_taken s at m p e in
      let w = part-laws.string_whole s at m p e in
      record {
        within = g.within;
        shows = λ t. ap bytes (g.shows t);
        inner = string_inside s at m p e;
        sorted = tt;
        written = w.1;
        whole = λ b r. w.0.0;
      }

  uuid_taken : (p : Part) (m : ℕ) → read_raw 16 s at ≡ parts.Got p m → Taken uuid s at (bytes p) m
  uuid_taken p m e =
      let g = part-laws.raw_taken 16 s at m p e in
      let w = part-laws.raw_whole 16 s at m p e in
      let q = part-laws.raw_got 16 s at m p e in
      record {
        within = g.within;
        shows = λ t. ap bytes (g.shows t);
        inner = rw q.1.0 (le-leb (at + 16) (length s) q.0);
        sorted = w.1;
        written = refl;
        whole = λ b r. w.0.0;
      }

  data_taken : (p : Part) (m : ℕ) → read_data s at ≡ blobs.Got p m → Taken blob s at (bytes p) m
  data_taken p m e =
      let g = part-laws.data_taken s at m p e in
      let q = part-laws.data_got s at m p e in
      let l = part-laws.shown_length s p.at p.len q.within in
      let f = int_fits s at (pos p.len) p.at q.remark q.reads in
      record {
        within = g.within;
        shows = λ t. ap bytes (g.shows t);
        inner = le-leb (p.at + p.len) (length s) q.within;
        sorted = tt;
        written = le-leb (length (shown s p)) 2147483647 (omega (arith, l, f.sfits));
        whole =
            λ b r.
            (part-laws.data_whole s at m p e (pos p.len) p.at b
            (q.reads ∙ ap (ints.Got (pos p.len) p.at) (none (pos p.len) p.at q.remark (rw q.reads at r)))).0.0;
      }

  -- ---- arguments

  args_taken : (n m : ℕ) (k : Option Remark) → read_int s at ≡ ints.Got (pos n) m k → (ps : List Part) (next : ℕ) → args_from n s [] m ≡ got ps next
      → Taken args s at (strings ps) next
  args_taken n m k e ps next a =
      let i = int_taken (pos n) m k e in
      let g = args_had n s m [] i.within (omega arith) ps next a in
      let bs = map (shown s) g.more in
      let l : length bs ≡ n = length-map g.more (shown s) ∙ g.count in
      rw g.same (record {
        within = g.within;
        shows = λ t. ap strings (g.shows t);
        inner = g.inner;
        sorted = tt;
        written = and_both (leb (length bs) 16) (all_no_zero bs) (le-leb (length bs) 16 (omega (arith, length-map g.more (shown s), ap length g.same, g.few))) g.clean;
        whole =
            λ b r.
            i.whole b r
            ∙ rw l (ap (λ l. canonical (pos n) ++ l) g.whole ∙ sym (append_assoc (canonical (pos n)) (strings_bytes bs) (drop next s)));
      })

  -- ---- a field, by what reading it says

  int_by : (i : IntRead) → read_int s at ≡ i → (v : Value Part) (next : ℕ) → int_field i ≡ got v next → Taken int s at v next
  int_by (ints.Got z m k) e v next g = same_got (Taken int s at) g (int_taken z m k e)
  int_by ints.RunsOut e v next g = not_out g

  dt_by : (i : IntRead) → read_int s at ≡ i → (v : Value Part) (next : ℕ) → dt_field i ≡ got v next → Taken dt s at v next
  dt_by (ints.Got (pos n) m k) e v next g = same_got (Taken dt s at) g (dt_taken n m k e)
  dt_by (ints.Got (negsuc n) m k) e v next g = not_refused g
  dt_by ints.RunsOut e v next g = not_out g

  mask_by : (i : IntRead) → read_int s at ≡ i → (v : Value Part) (next : ℕ) → mask_field i ≡ got v next → Taken mask s at v next
  mask_by (ints.Got z m k) e v next g = same_got (Taken mask s at) g (mask_taken z m k e)
  mask_by ints.RunsOut e v next g = not_out g

  part_by : (f : Field) (x : PartRead) → ((p : Part) (m : ℕ) → x ≡ parts.Got p m → Taken f s at (bytes p) m) → (v : Value Part) (next : ℕ)
      → part_field x ≡ got v next → Taken f s at v next
  part_by f (parts.Got p m) g v next e = same_got (Taken f s at) e (g p m refl)
  part_by f parts.RunsOut g v next e = not_out e

  data_by : (x : DataRead) → read_data s at ≡ x → (v : Value Part) (next : ℕ) → data_field x ≡ got v next → Taken blob s at v next
  data_by (blobs.Got p m) e v next g = same_got (Taken blob s at) g (data_taken p m e)
  data_by blobs.RunsOut e v next g = not_out g
  data_by blobs.NegativeLength e v next g = not_refused g

  strings_by : (x : Reading (List Part)) → ((ps : List Part) (m : ℕ) → x ≡ got ps m → Taken args s at (strings ps) m) → (v : Value Part) (next : ℕ)
      → as_strings x ≡ got v next → Taken args s at v next
  strings_by (got ps m) g v next e = same_got (Taken args s at) e (g ps m refl)
  strings_by runs_out g v next e = not_out e
  strings_by (refused r) g v next e = not_refused e

  args_by : (i : IntRead) → read_int s at ≡ i → (v : Value Part) (next : ℕ) → args_field s i ≡ got v next → Taken args s at v next
  args_by (ints.Got (pos n) m k) e v next g = strings_by (args_from n s [] m) (args_taken n m k e) v next g
  args_by (ints.Got (negsuc n) m k) e v next g = not_refused g
  args_by ints.RunsOut e v next g = not_out g

  pub field_taken : (f : Field) (v : Value Part) (next : ℕ) → read_field f s at ≡ got v next → Taken f s at v next
  field_taken int v next e = int_by (read_int s at) refl v next e
  field_taken dt v next e = dt_by (read_int s at) refl v next e
  field_taken mask v next e = mask_by (read_int s at) refl v next e
  field_taken str v next e = part_by str (read_string s at) string_taken v next e
  field_taken uuid v next e = part_by uuid (read_raw 16 s at) uuid_taken v next e
  field_taken blob v next e = data_by (read_data s at) refl v next e
  field_taken args v next e = args_by (read_int s at) refl v next e
