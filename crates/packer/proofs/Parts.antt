-- What a part that was read tells of the window. Assumes nothing.
use Rattle.std.specs.Prelude.{Option, None}
use Prim.Native.Nat.{ℕ, suc, ◌+◌, ◌-◌, ◌≤◌}
use mathlib.Core.Path.{◌≡◌, refl, sym, ◌∙◌, ap}
use mathlib.Core.Bool.{true}
use mathlib.Core.List.{List, [], ◌∷◌, ◌++◌, append_assoc}
use native.Mathlib.Omega.{arith}
use native.Mathlib.Nat.{add-zero, zero-add}
use lib.ListN.{length, take, drop, length-append, length-drop, take-append-drop}
use lib.Seq.{take-append-le, drop-append-le, drop-drop, length-take-le, take-append_seam}
use lib.Dec.{eqb, leb}
use lib.IntN.{ℤ, pos, negsuc}
use borrow.Author.Tests.{eqb-true, leb-true, le-leb}
use Rattle.num.proofs.Cases.{by_bool}
use Rattle.varint.specs.Integers.{read_int}
use Rattle.varint.specs.Written.{canonical}
use Rattle.varint.specs.Laws.{Bytes, int_out}
use Rattle.varint.specs.declared.Remark.{Remark}
use Rattle.varint.specs.declared.IntRead.{IntRead}
use Rattle.varint.specs.declared.IntRead.TheVariants as ints
use Rattle.varint.proofs.Prefix.{int_whole, int_fits}
use Rattle.varint.proofs.Theorems.{int_steady}
use Rattle.packer.specs.Parts.{part, shown, read_raw, string_from, read_string, as_data, data_after, read_data}
use Rattle.packer.specs.Texts.{no_zero, string_bytes, is_data, data_bytes}
use Rattle.packer.specs.Laws.{Used, LengthBelow0}
use Rattle.packer.specs.declared.Part.{Part}
use Rattle.packer.specs.declared.PartRead.{PartRead}
use Rattle.packer.specs.declared.PartRead.TheVariants.{Got, RunsOut}
use Rattle.packer.specs.declared.DataRead.TheVariants as blobs
use Rattle.packer.proofs.Reading.{raw_fits, shown_in}
use Rattle.packer.proofs.Places.{past, past_within, string_at, string_shown}

-- from `at` to `next` a window holds w
abbrev pub Whole : List ℕ → ℕ → ℕ → List ℕ → Type 0
Whole s at next w = (drop at s ≡ w ++ drop next s) × (next ≡ at + length w)

pub used : (s : List ℕ) (at next : ℕ) (w : List ℕ) → Whole s at next w → Used s at next w
used s at next w h =
    let n : next - at ≡ length w = omega (arith, h.1) in
    (rw (n, h.0) (take-append_seam w (drop next s)), h.1)

-- a part within the window
module _ (s : List ℕ) (at n : ℕ) (h : at + n ≤ length s) where
  pub shown_length : length (shown s (part at n)) ≡ n
  shown_length = rw (shown_in s at n h) (length-take-le n (drop at s) (omega (arith, length-drop at s)))

  pub split : drop at s ≡ shown s (part at n) ++ drop (at + n) s
  split = sym (take-append-drop n (drop at s)) ∙ rw (shown_in s at n h, drop-drop)

  -- shows the same in a longer window
  pub shown_more : (t : List ℕ) → shown (s ++ t) (part at n) ≡ shown s (part at n)
  shown_more t =
      shown_in (s ++ t) at n (omega (arith, length-append s t))
      ∙ ap (take n) (drop-append-le at s t (omega arith))
      ∙ take-append-le n (drop at s) t (omega (arith, length-drop at s))
      ∙ sym (shown_in s at n h)

-- a part that was read: the place past it is within the window, and what follows changes neither the answer nor what the part shows
pub record Taken {A : Type 0} (got : Part → ℕ → A) (read : List ℕ → ℕ → A) (s : List ℕ) (at : ℕ) (p : Part) (next : ℕ) : Type 0 where
  pub within : next ≤ length s
  pub steady : (t : List ℕ) → read (s ++ t) at ≡ got p next
  pub shows : (t : List ℕ) → shown (s ++ t) p ≡ shown s p

-- ---- raw bytes

pub raw_got : (n : ℕ) (s : List ℕ) (at next : ℕ) (p : Part) → read_raw n s at ≡ Got p next → (at + n ≤ length s) × ((p ≡ part at n) × (next ≡ at + n))
unfolding read_raw
raw_got n s at next p e =
    by_bool (leb (at + n) (length s))
    (λ t. let q : Got (part at n) (at + n) ≡ Got p next = rw t at e in (leb-true (at + n) (length s) t, (cc, cc)))
    (λ t. let q : RunsOut ≡ Got p next = rw t at e in let z : ◌≡◌ {A = ℕ} 0 1 = cc in absurd (omega arith))

module _ (n : ℕ) (s : List ℕ) (at next : ℕ) (p : Part) (e : read_raw n s at ≡ Got p next) where
  pub raw_taken : Taken Got (read_raw n) s at p next
  raw_taken =
      let g = raw_got n s at next p e in
      rw (g.1.0, g.1.1) (record {
        within = g.0;
        steady = λ t. raw_fits (s ++ t) at n (omega (arith, length-append s t, g.0));
        shows = shown_more s at n g.0;
      })

  pub raw_whole : Whole s at next (shown s p) × (length (shown s p) ≡ n)
  raw_whole =
      let g = raw_got n s at next p e in
      let l = shown_length s at n g.0 in
      rw (g.1.0, g.1.1) ((split s at n g.0, rw l), l)

-- ---- strings

-- the rest of a string
record Rest (xs : List ℕ) (at n next : ℕ) (p : Part) : Type 0 where
  text : List ℕ
  after : List ℕ
  clean : no_zero text ≡ true
  bytes : xs ≡ string_bytes text ++ after
  same : p ≡ part at (n + length text)
  place : next ≡ at + n + length (string_bytes text)

rest_got : (xs : List ℕ) (at n next : ℕ) (p : Part) → string_from xs at n ≡ Got p next → Rest xs at n next p
unfolding string_from no_zero
rest_got [] at n next p e = let z : ◌≡◌ {A = ℕ} 0 1 = cc in absurd (omega arith)
rest_got (b ∷ xs) at n next p e =
    by_bool (eqb b 0)
    (λ t.
    let q : Got (part at n) (at + n + 1) ≡ Got p next = rw t at e in
    let pp : p ≡ part at n = cc in
    let nn : next ≡ at + n + 1 = cc in
    record { text = []; after = xs; clean = refl; bytes = rw (eqb-true b 0 t); same = rw (pp, add-zero); place = nn })
    (λ t.
    let g = rest_got xs at (n + 1) next p (rw t at e) in
    let i : n + 1 + length g.text ≡ n + suc (length g.text) = omega arith in
    record {
      text = b ∷ g.text;
      after = g.after;
      clean = rw t g.clean;
      bytes = rw (← g.bytes);
      same = g.same ∙ rw i;
      place = omega (arith, g.place);
    })

-- a string that was read
pub record Text (s : List ℕ) (at next : ℕ) (p : Part) : Type 0 where
  pub text : List ℕ
  pub after : List ℕ
  pub clean : no_zero text ≡ true
  pub bytes : drop at s ≡ string_bytes text ++ after
  pub same : p ≡ part at (length text)
  pub place : next ≡ at + length (string_bytes text)
  pub start : at ≤ length s

pub string_got : (s : List ℕ) (at next : ℕ) (p : Part) → read_string s at ≡ Got p next → Text s at next p
unfolding read_string
string_got s at next p e =
    let g = rest_got (drop at s) at 0 next p e in
    let l = ap length g.bytes in
    record {
      text = g.text;
      after = g.after;
      clean = g.clean;
      bytes = g.bytes;
      same = g.same ∙ rw zero-add;
      place = omega (arith, g.place);
      start = omega (arith, l, length-drop at s, length-append (string_bytes g.text) g.after, length-append g.text (0 ∷ []));
    }

module _ (s text after : List ℕ) (at : ℕ) (clean : no_zero text ≡ true) (bytes : drop at s ≡ string_bytes text ++ after) (start : at ≤ length s) where
  text_taken : Taken Got read_string s at (part at (length text)) (at + length (string_bytes text))
  text_taken =
      let w = string_bytes text in
      let h = past_within s w after at bytes start in
      record {
        within = h;
        steady =
            λ t.
            string_at (s ++ t) text (after ++ t) at clean
            (drop-append-le at s t start ∙ ap (λ l. l ++ t) bytes ∙ append_assoc w after t);
        shows = shown_more s at (length text) (omega (arith, h, length-append text (0 ∷ [])));
      }

  text_whole : Whole s at (at + length (string_bytes text)) (string_bytes (shown s (part at (length text)))) × (no_zero (shown s (part at (length text))) ≡ true)
  text_whole =
      rw (string_shown s text after at clean bytes start)
      ((rw (past s (string_bytes text) after at bytes) bytes, refl), clean)

module _ (s : List ℕ) (at next : ℕ) (p : Part) (e : read_string s at ≡ Got p next) where
  pub string_taken : Taken Got read_string s at p next
  string_taken =
      let g = string_got s at next p e in
      rw (← g.same, ← g.place) at (text_taken s g.text g.after at g.clean g.bytes g.start)

  pub string_whole : Whole s at next (string_bytes (shown s p)) × (no_zero (shown s p) ≡ true)
  string_whole =
      let g = string_got s at next p e in
      rw (← g.same, ← g.place) at (text_whole s g.text g.after at g.clean g.bytes g.start)

-- ---- data

-- data that was read: its length stands before it
pub record Body (s : List ℕ) (at next : ℕ) (p : Part) : Type 0 where
  pub remark : Option Remark
  pub reads : read_int s at ≡ ints.Got (pos p.len) p.at remark
  pub within : p.at + p.len ≤ length s
  pub place : next ≡ p.at + p.len

raw_data : (x : PartRead) (p : Part) (next : ℕ) → as_data x ≡ blobs.Got p next → x ≡ Got p next
raw_data (Got q m) p next e = let same : q ≡ p = cc in let place : m ≡ next = cc in rw (same, place)
raw_data RunsOut p next e = let z : ◌≡◌ {A = ℕ} 0 1 = cc in absurd (omega arith)

body_got : (s : List ℕ) (at next : ℕ) (p : Part) (i : IntRead) → read_int s at ≡ i → data_after s i ≡ blobs.Got p next → Body s at next p
body_got s at next p (ints.Got (pos n) m k) e d =
    let g = raw_got n s m next p (raw_data (read_raw n s m) p next d) in
    rw g.1.0 (record { remark = k; reads = e; within = g.0; place = g.1.1 })
body_got s at next p (ints.Got (negsuc n) m k) e d = let z : ◌≡◌ {A = ℕ} 0 1 = cc in absurd (omega arith)
body_got s at next p ints.RunsOut e d = let z : ◌≡◌ {A = ℕ} 0 1 = cc in absurd (omega arith)

module _ (s : List ℕ) (at next : ℕ) (p : Part) (e : read_data s at ≡ blobs.Got p next) where
  pub data_got : Body s at next p
  unfolding read_data
  data_got = body_got s at next p (read_int s at) refl e

  pub data_taken : Taken blobs.Got read_data s at p next
  unfolding read_data
  data_taken =
      let g = data_got in
      record {
        within = omega (arith, g.within, g.place);
        steady =
            λ t.
            rw (int_steady.0 s t at (ap int_out g.reads) ∙ g.reads)
            (ap as_data (raw_fits (s ++ t) p.at p.len (omega (arith, length-append s t, g.within))) ∙ rw g.place);
        shows = shown_more s p.at p.len g.within;
      }

  pub data_whole : (z : ℤ) (m : ℕ) → Bytes s → read_int s at ≡ ints.Got z m None
      → Whole s at next (data_bytes (shown s p)) × (is_data (shown s p) ≡ true)
  data_whole z m b r =
      let g = data_got in
      let n = p.len in
      let c = canonical (pos n) in
      let x = shown s p in
      let l : length (shown s p) ≡ p.len = shown_length s p.at n g.within in
      let k : g.remark ≡ None = cc g.reads in
      let w = int_whole s at p.at (pos n) b (g.reads ∙ rw k) in
      let f = int_fits s at (pos n) p.at g.remark g.reads in
      rw l (
        (
          w.0 ∙ ap (λ l. c ++ l) (split s p.at n g.within ∙ rw g.place) ∙ sym (append_assoc c x (drop next s)),
          omega (arith, g.place, w.1, length-append c x, l),
        ),
        le-leb p.len 2147483647 (omega (arith, f.sfits)),
      )

-- ---- data of a negative length

module _ (s : List ℕ) (at : ℕ) where
  below_raw : (x : PartRead) → as_data x ≡ blobs.NegativeLength → LengthBelow0 s at
  below_raw (Got p next) e = let z : ◌≡◌ {A = ℕ} 0 1 = cc in absurd (omega arith)
  below_raw RunsOut e = let z : ◌≡◌ {A = ℕ} 0 1 = cc in absurd (omega arith)

  below_after : (i : IntRead) → read_int s at ≡ i → data_after s i ≡ blobs.NegativeLength → LengthBelow0 s at
  below_after (ints.Got (pos n) m k) e d = below_raw (read_raw n s m) d
  below_after (ints.Got (negsuc n) m k) e d = record { n = n; next = m; remark = k; read = e }
  below_after ints.RunsOut e d = let z : ◌≡◌ {A = ℕ} 0 1 = cc in absurd (omega arith)

  pub data_below : read_data s at ≡ blobs.NegativeLength → LengthBelow0 s at
  unfolding read_data
  data_below e = below_after (read_int s at) refl e

  pub below_data : LengthBelow0 s at → read_data s at ≡ blobs.NegativeLength
  unfolding read_data
  below_data g = rw g.read

  pub below_steady : LengthBelow0 s at → (t : List ℕ) → LengthBelow0 (s ++ t) at
  below_steady g t =
      record { n = g.n; next = g.next; remark = g.remark; read = int_steady.0 s t at (ap int_out g.read) ∙ g.read }
