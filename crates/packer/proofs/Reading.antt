-- Laws of the definitions of specs/Parts.antt, as the code meets them. Assumes nothing.
use Prim.Native.Nat.{ℕ, suc, ◌+◌, ◌-◌, ◌≤◌, ◌<◌}
use mathlib.Core.Path.{◌≡◌, refl}
use mathlib.Core.Bool.{Bool}
use mathlib.Core.List.{List, [], ◌∷◌}
use native.Mathlib.Nat.{add-zero, zero-add}
use native.Mathlib.Omega.{arith}
use lib.Dec.{eqb}
use lib.ListN.{length, take, drop, drop_of_length-le}
use borrow.Author.Tests.{le-leb, lt-leb}
use Rattle.std.specs.List.{position_or_len}
use Rattle.num.proofs.Cases.{by_bool}
use Rattle.packer.specs.Parts.{part, shown, read_raw, string_from, read_string}
use Rattle.varint.proofs.Laws.{tail_is}
use Rattle.packer.specs.declared.Part.{Part}
use Rattle.packer.specs.declared.PartRead.TheVariants.{Got, RunsOut}

module _ (s : List ℕ) (at n : ℕ) where
  pub raw_fits : at + n ≤ length s → read_raw n s at ≡ Got (part at n) (at + n)
  unfolding read_raw
  raw_fits h = simp (le-leb (at + n) (length s) h)

  pub raw_short : length s < at + n → read_raw n s at ≡ RunsOut
  unfolding read_raw
  raw_short h = simp (lt-leb (at + n) (length s) h)

  pub shown_in : at + n ≤ length s → shown s (part at n) ≡ take n (drop at s)
  unfolding shown
  shown_in h = simp (le-leb (at + n) (length s) h)

  pub shown_out : length s < at + n → shown s (part at n) ≡ []
  unfolding shown
  shown_out h = simp (lt-leb (at + n) (length s) h)

-- the bytes of a part, by what stands from its place on
module _ (s : List ℕ) (p : Part) where
  pub part_within : p.at + p.len ≤ length s → shown s p ≡ take p.len (take (length s - p.at) (drop p.at s))
  part_within h = rw (tail_is s p.at) (shown_in s p.at p.len h)

  pub part_outside : length s < p.at + p.len → shown s p ≡ []
  part_outside h = shown_out s p.at p.len h

-- ---- a string runs to the first 00

abbrev pub is_zero : ℕ → Bool
is_zero b = eqb b 0

abbrev pub zero_place : List ℕ → ℕ
zero_place = position_or_len is_zero

ended : (s : List ℕ) (start n : ℕ) → zero_place s < length s
    → string_from s start n ≡ Got (part start (n + zero_place s)) (start + (n + zero_place s) + 1)
unfolding string_from
ended [] start n h = absurd (omega arith)
ended (b ∷ s) start n h =
    by_bool (eqb b 0)
    (λ t. rw (t, add-zero))
    (λ t.
    let e : n + 1 + zero_place s ≡ n + (1 + zero_place s) = omega arith in
    let k : 1 + zero_place s < suc (length s) = rw t at h in
    rw (t, ← e) (ended s start (n + 1) (omega arith)))

unended : (s : List ℕ) (start n : ℕ) → length s ≤ zero_place s → string_from s start n ≡ RunsOut
unfolding string_from
unended [] start n h = refl
unended (b ∷ s) start n h =
    by_bool (eqb b 0)
    (λ t. let k : suc (length s) ≤ 0 = rw t at h in absurd (omega arith))
    (λ t. let k : suc (length s) ≤ 1 + zero_place s = rw t at h in rw t (unended s start (n + 1) (omega arith)))

module _ (s : List ℕ) (at : ℕ) where
  pub string_outside : length s ≤ at → read_string s at ≡ RunsOut
  unfolding read_string string_from
  string_outside h = rw (drop_of_length-le s h)

  pub string_found : zero_place (drop at s) < length (drop at s) → read_string s at ≡ Got (part at (zero_place (drop at s))) (at + zero_place (drop at s) + 1)
  unfolding read_string
  string_found h = rw (← zero-add (zero_place (drop at s))) (ended (drop at s) at 0 h)

  pub string_unended : length (drop at s) ≤ zero_place (drop at s) → read_string s at ≡ RunsOut
  unfolding read_string
  string_unended h = unended (drop at s) at 0 h
