-- What stands at a place of a window: `drop at s ≡ w ++ rest`. Raw bytes, strings and data that stand at a place. Assumes nothing.
use Rattle.std.specs.Prelude.{None}
use Prim.Native.Nat.{ℕ, suc, ◌+◌, ◌≤◌}
use mathlib.Core.Path.{◌≡◌, sym, ◌∙◌, ap}
use mathlib.Core.Bool.{true}
use mathlib.Core.List.{List, [], ◌∷◌, ◌++◌, append_assoc}
use native.Mathlib.Omega.{arith}
use native.Mathlib.Nat.{add-zero, zero-add}
use lib.ListN.{length, drop, length-append, length-drop}
use lib.Seq.{drop-drop, drop-append_seam, take-append_seam}
use lib.IntN.{pos}
use borrow.Author.Tests.{leb-true}
use Rattle.varint.specs.Integers.{read_int}
use Rattle.varint.specs.declared.IntRead.TheVariants as ints
use Rattle.varint.proofs.Prefix.{canonical_at}
use Rattle.packer.specs.Parts.{part, shown, read_raw, string_from, read_string, as_data, read_data}
use Rattle.packer.specs.Texts.{no_zero, string_bytes, is_data, data_bytes}
use Rattle.packer.specs.declared.PartRead.TheVariants.{Got}
use Rattle.packer.specs.declared.DataRead.TheVariants as blobs
use Rattle.packer.proofs.Reading.{raw_fits, shown_in}
use Rattle.packer.proofs.Texts.{no_zero_head, lead}

module _ (s w rest : List ℕ) (at : ℕ) (e : drop at s ≡ w ++ rest) where
  pub past : drop (at + length w) s ≡ rest
  past = sym (drop-drop (length w) at s) ∙ rw e (drop-append_seam w rest)

  module _ (h : at ≤ length s) where
    pub past_within : at + length w ≤ length s
    past_within = omega (arith, ap length e, length-drop at s, length-append w rest)

    pub shown_at : shown s (part at (length w)) ≡ w
    shown_at = shown_in s at (length w) past_within ∙ rw e (take-append_seam w rest)

    pub raw_at : read_raw (length w) s at ≡ Got (part at (length w)) (at + length w)
    raw_at = raw_fits s at (length w) past_within

string_from_law : (b rest : List ℕ) (at n : ℕ) → no_zero b ≡ true → string_from (string_bytes b ++ rest) at n ≡ Got (part at (n + length b)) (at + n + length (string_bytes b))
unfolding string_from
string_from_law [] rest at n e = rw add-zero
string_from_law (x ∷ b) rest at n e =
    let h = no_zero_head x b e in
    let p : n + 1 + length b ≡ n + suc (length b) = omega arith in
    let q : at + (n + 1) + length (string_bytes b) ≡ at + n + suc (length (string_bytes b)) = omega arith in
    rw h.0 (string_from_law b rest at (n + 1) h.1 ∙ rw (p, q))

module _ (s b rest : List ℕ) (at : ℕ) (clean : no_zero b ≡ true) (e : drop at s ≡ string_bytes b ++ rest) where
  pub string_at : read_string s at ≡ Got (part at (length b)) (at + length (string_bytes b))
  unfolding read_string
  string_at = rw e (string_from_law b rest at 0 clean ∙ rw (add-zero at, zero-add))

  pub string_shown : at ≤ length s → shown s (part at (length b)) ≡ b
  string_shown h = shown_at s b (0 ∷ rest) at (e ∙ append_assoc b (0 ∷ []) rest) h

module _ (s b rest : List ℕ) (at : ℕ) (small : is_data b ≡ true) (e : drop at s ≡ data_bytes b ++ rest) where
  data_parts : drop at s ≡ lead b ++ (b ++ rest)
  data_parts = e ∙ append_assoc (lead b) b rest

  -- the length that stands there
  pub length_at : read_int s at ≡ ints.Got (pos (length b)) (at + length (lead b)) None
  length_at =
      canonical_at (pos (length b)) (record { sfits = omega (arith, leb-true (length b) 2147483647 small) }) s (b ++ rest) at data_parts

  module _ (h : at ≤ length s) where
    -- the bytes past the length
    body_at : drop (at + length (lead b)) s ≡ b ++ rest
    body_at = past s (lead b) (b ++ rest) at data_parts

    body_within : at + length (lead b) ≤ length s
    body_within = past_within s (lead b) (b ++ rest) at data_parts h

    pub data_at : read_data s at ≡ blobs.Got (part (at + length (lead b)) (length b)) (at + length (data_bytes b))
    unfolding read_data
    data_at =
        let q : at + length (lead b) + length b ≡ at + length (data_bytes b) = omega (arith, length-append (lead b) b) in
        rw length_at (ap as_data (raw_at s b rest (at + length (lead b)) body_at body_within) ∙ rw q)

    pub data_shown : shown s (part (at + length (lead b)) (length b)) ≡ b
    data_shown = shown_at s b rest (at + length (lead b)) body_at body_within
